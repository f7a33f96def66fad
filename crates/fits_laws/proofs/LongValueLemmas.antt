-- What a place says, from what its card says.
use Rattle.std.proofs.Common.{◌≡◌, ℕ, List, [], ◌∷◌, take, All, Option, Some, sym, ◌∙◌, ap, subst, arith, inr}
use Rattle.fits_card.specs.Card.{HasValue}
use Rattle.fits_value.proofs.ReadLemmas.{Said}
use Rattle.fits_laws.proofs.OneValueLemmas.{same_said, one_card_value}
use Rattle.fits_laws.proofs.LongStringLemmas.{one_long_value}
use Rattle.fits_value.specs.Value.{CardSays}
use Rattle.fits_value.specs.LongString.{cards_from}
use Rattle.fits_laws.specs.LongStrings.{BeginsChain, LongSays}
use Rattle.fits_value.specs.declared.value.Value.{Value}
use Rattle.fits_value.specs.declared.value.Value.TheVariants.{Str}

-- the card at a place, by its list of one
one_card : (a b : List ℕ) (s rest : List (List ℕ)) → s ≡ a ∷ rest → take 1 s ≡ b ∷ [] → b ≡ a
one_card a b s rest e f = let g : ◌≡◌ {A = List (List ℕ)} (b ∷ []) (a ∷ []) = sym f ∙ ap (λ (x : List (List ℕ)). take 1 x) e in (cc)

-- the card of a chain says its first piece
begun_says : (cards : List (List ℕ)) (place : ℕ) (card : List ℕ) (rest : List (List ℕ)) → cards_from cards place ≡ card ∷ rest → (h : BeginsChain cards place) → CardSays card (Str h.piece.text) h.piece.comment
begun_says cards place card rest at h = subst (λ (x : List ℕ). CardSays x (Str h.piece.text) h.piece.comment) (one_card card h.piece.card (cards_from cards place) rest at h.at) h.says

-- what is said is what is found
pub long_only : (cards : List (List ℕ)) (place : ℕ) (x y : Said) → LongSays cards place x.0 x.1 → LongSays cards place y.0 y.1 → Some x ≡ Some y
long_only cards place x y g h = let e = one_long_value cards place x.0 y.0 x.1 y.1 g h in same_said x y e.0 e.1

-- no chain begins at a card without a value
pub valueless : (cards : List (List ℕ)) (place : ℕ) (card : List ℕ) (rest : List (List ℕ)) → cards_from cards place ≡ card ∷ rest → (HasValue card → ⊥) → BeginsChain cards place → ⊥
valueless cards place card rest at none h = none (subst (λ (x : List (List ℕ)). All HasValue (take 1 x)) at h.first 0 card (omega arith))

-- nor at one whose value is no string
pub stringless : (cards : List (List ℕ)) (place : ℕ) (card : List ℕ) (rest : List (List ℕ)) (v : Value) (c : Option (List ℕ)) → cards_from cards place ≡ card ∷ rest → CardSays card v c → ((text : List ℕ) → v ≡ Str text → ⊥)
    → BeginsChain cards place → ⊥
stringless cards place card rest v c at says none h =
    none h.piece.text (one_card_value card v (Str h.piece.text) c h.piece.comment says (begun_says cards place card rest at h)).0

-- what its card says, the place says where no chain begins
pub long_alone : (cards : List (List ℕ)) (place : ℕ) (card : List ℕ) (rest : List (List ℕ)) (v : Value) (c : Option (List ℕ)) → cards_from cards place ≡ card ∷ rest → CardSays card v c → (BeginsChain cards place → ⊥)
    → LongSays cards place v c
long_alone cards place card rest v c at says none = inr (record { card = card; at = ap (λ (x : List (List ℕ)). take 1 x) at; says = says; no_chain = none })
