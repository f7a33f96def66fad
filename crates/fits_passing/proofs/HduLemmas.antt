-- One HDU begins bytes, or they have one fault.
use Rattle.std.proofs.Common.{◌≡◌, ℕ, Bool, true, List, ◌∷◌, ◌++◌, length, take, ap, ◌∙◌, append_assoc, subst, All, arith}
use Rattle.std.specs.Prelude.{IsTrue, nat_eq, codes}
use Rattle.std.specs.List.{starts_with}
use Rattle.std.specs.Str.{bytes_eq}
use Rattle.std.proofs.lemmas.List.{length-append, take-append-le}
use Rattle.fits_card.specs.Card.{keyword_name}
use Rattle.fits_card.specs.Header.{IsInnerCard, IsHeaderOf, header_bytes, joined_cards}
use Rattle.fits_passing.specs.Hdu.{HduParts, IsHduOf}
use Rattle.fits_passing.proofs.ShapeLemmas.{first_name, shape_begins}

-- the header that begins an HDU's bytes
pub header_of_hdu : (primary : Bool) (f : List ℕ) (hdu : HduParts) (rest : List ℕ) → IsHduOf primary f hdu rest → IsHeaderOf f hdu.header (hdu.data_unit ++ rest)
header_of_hdu primary f hdu rest p = record {
  whole = p.whole.header;
  joined = p.joined ∙ append_assoc (header_bytes hdu.header) hdu.data_unit rest;
}

-- the first eight bytes of a header are those of its first card
header_begins : (card : List ℕ) (cards : List (List ℕ)) (rest : List ℕ) → length card ≡ 80 → take 8 (joined_cards (card ∷ cards) ++ rest) ≡ keyword_name card
header_begins card cards rest size =
    take-append-le 8 (joined_cards (card ∷ cards)) rest (omega (arith, length-append card (joined_cards cards)))
    ∙ take-append-le 8 card (joined_cards cards) (omega arith)

-- its first card has 80 bytes
first_size : (cards : List (List ℕ)) (card : List ℕ) (rest : List (List ℕ)) → cards ≡ card ∷ rest → All IsInnerCard cards → length card ≡ 80
first_size cards card rest e h =
    let inner : All IsInnerCard (card ∷ rest) = subst (λ (c : List (List ℕ)). All IsInnerCard c) e h in
    (inner 0 card (omega arith)).size

-- an HDU's are the name of its first card
pub hdu_begins : (primary : Bool) (f : List ℕ) (hdu : HduParts) (rest : List ℕ) → IsHduOf primary f hdu rest → take 8 f ≡ first_name primary
hdu_begins primary f hdu rest p =
    let begin = shape_begins primary hdu.header.cards p.whole.shape p.whole.described in
    let behind : List ℕ = (hdu.header.end ++ hdu.header.fill) ++ (hdu.data_unit ++ rest) in
    let size : length begin.0 ≡ 80 = first_size hdu.header.cards begin.0 begin.1 begin.2 p.whole.header.cards in
    ap (take 8) ((header_of_hdu primary f hdu rest p).joined ∙ append_assoc (joined_cards hdu.header.cards) (hdu.header.end ++ hdu.header.fill) (hdu.data_unit ++ rest))
    ∙ ap (λ cards. take 8 (joined_cards cards ++ behind)) begin.2
    ∙ header_begins begin.0 begin.1 behind size
    ∙ begin.3

-- a primary HDU begins with SIMPLE
pub primary_begins : (f : List ℕ) (hdu : HduParts) (rest : List ℕ) → IsHduOf true f hdu rest → IsTrue (starts_with nat_eq f (codes "SIMPLE  "))
primary_begins f hdu rest p = ap (bytes_eq (codes "SIMPLE  ")) (hdu_begins true f hdu rest p)
