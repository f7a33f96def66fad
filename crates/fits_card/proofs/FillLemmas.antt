-- Spaces, counted and told from other bytes.
use Rattle.std.proofs.Common.{◌≡◌, ℕ, ◌≤◌, zero, suc, true, nat_eq, List, [], ◌∷◌, length, replicate, refl, ap, ◌∙◌, arith}
use Rattle.std.specs.List.{list_all}
use Rattle.std.proofs.lemmas.Bool.{and_parts, eqb-true}
use Rattle.fits_card.specs.Header.{Header, IsHeader}
use Rattle.fits_card.proofs.HeaderLemmas.{fill_length-by_cards}

-- bytes that are all spaces are as many copies of one
pub spaces_counted : (bytes : List ℕ) → list_all (nat_eq 32) bytes ≡ true → replicate (length bytes) 32 ≡ bytes
spaces_counted [] all = refl
spaces_counted (b ∷ bytes) all =
    let both = and_parts (nat_eq 32 b) (list_all (nat_eq 32) bytes) all in
    ap (λ c. c ∷ replicate (length bytes) 32) (eqb-true 32 b both.0) ∙ ap (λ t. b ∷ t) (spaces_counted bytes both.1)

-- copies of a space are spaces
pub spaces_all : (count : ℕ) → list_all (nat_eq 32) (replicate count 32) ≡ true
spaces_all zero = refl
spaces_all (suc count) = spaces_all count

-- the fill of a header is shorter than a block
pub fill_short : (header : Header) → IsHeader header → length header.fill ≤ 2800
fill_short header whole = omega (arith, whole.fill_size, fill_length-by_cards (length header.cards))
