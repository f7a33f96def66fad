-- The place of a keyword's lead is that of a card.
use Rattle.std.proofs.Common.{◌≡◌, ℕ, ◌≤◌, ◌-◌, List, [], ◌∷◌, length, Option, None, Some, inl, inr, refl, ap, sym, ◌∙◌, arith, ltb}
use Rattle.std.specs.Prelude.{Result, Ok, Err, if◌then◌else◌, nat_lt, ok_or}
use Rattle.std.specs.List.{slice_get}
use Rattle.std.specs.Option.{option_map}
use Rattle.std.proofs.lemmas.Bool.{cases_Bool, cases_lt, cond-false, cond-true, lt-ltb}
use Rattle.std.proofs.lemmas.Option.{slice_get_within}
use Rattle.fits_card.specs.Card.{has_value}
use Rattle.fits_card.specs.Header.{card_at}
use Rattle.fits_making.specs.declared.refusal.Refusal.{Refusal}
use Rattle.fits_making.specs.declared.refusal.Refusal.TheVariants.{NoCard}
use Rattle.fits_passing.specs.File.{FileParts}
use Rattle.fits_passing.specs.Hdu.{HduParts}
use Rattle.fits_session.specs.Edit.{hdu_of}
use Rattle.fits_session.specs.Query.{card_count_in, card_in, in_hdu, positions_in}
use Rattle.fits_extended.specs.Stands.{lead_among, lead_in, lead_or, place_of_lead, or_none}

-- the card at a place, counted from 1
abbrev placed : List (List ℕ) → ℕ → Option (List ℕ)
placed cards place = if nat_lt 0 place then card_at cards place else None

-- a place that has a card is no more than how many there are
placed_within : (cards : List (List ℕ)) (place : ℕ) (card : List ℕ) (found : Option (List ℕ)) → placed cards place ≡ found → ok_or found NoCard ≡ Ok card → place ≤ length cards
placed_within cards place card None is said = absurd (cc)
placed_within cards place card (Some one) is said = elim (cases_lt 0 place) [
  | inl some ↦
      let here : slice_get cards (place - 1) ≡ Some one = sym (cond-true (ltb 0 place) (card_at cards place) None (lt-ltb 0 place some)) ∙ is in
      let within = slice_get_within cards (place - 1) one here in
      omega (arith, within)
  | inr none ↦ omega arith
]

-- the same of an HDU, if it is there
card_within : (hdu : Option HduParts) (place count : ℕ) (card : List ℕ) → in_hdu (λ (one : HduParts). Ok (length one.header.cards)) hdu ≡ Ok count
    → in_hdu (λ (one : HduParts). ok_or (placed one.header.cards place) NoCard) hdu ≡ Ok card → place ≤ count
card_within None place count card counted said = absurd (cc)
card_within (Some one) place count card counted said =
    let is : length one.header.cards ≡ count = cc in
    omega (arith, is, placed_within one.header.cards place card (placed one.header.cards place) refl said)

-- one place and card, found twice
same_place : (x y : ℕ × List ℕ) → Some x ≡ Some y → x.0 ≡ y.0
same_place x y e = let same : x ≡ y = cc in ap (λ (z : ℕ × List ℕ). z.0) same

-- a lead's place, by what its card is
or_within : (file : FileParts) (h first place count : ℕ) (card : List ℕ) (said : Result (List ℕ) Refusal) (others : Option (ℕ × List ℕ)) → card_count_in file h ≡ Ok count → card_in file h first ≡ said
    → (others ≡ Some (place, card) → place ≤ count) → lead_or first said others ≡ Some (place, card) → place ≤ count
or_within file h first place count card (Err why) others counted is rest found = rest found
or_within file h first place count card (Ok one) others counted is rest found = elim (cases_Bool (has_value one)) [
  | inl has ↦
      let e : first ≡ place = same_place (first, one) (place, card) (sym (cond-true (has_value one) (Some (first, one)) others has) ∙ found) in
      omega (arith, e, card_within (hdu_of file h) first count one counted is)
  | inr none ↦ rest (sym (cond-false (has_value one) (Some (first, one)) others none) ∙ found)
]

-- a lead among places
among_within : (file : FileParts) (h place count : ℕ) (card : List ℕ) (places : List ℕ) → card_count_in file h ≡ Ok count → lead_among file h places ≡ Some (place, card) → place ≤ count
unfolding lead_among
among_within file h place count card [] counted found = absurd (cc)
among_within file h place count card (first ∷ places) counted found =
    or_within file h first place count card (card_in file h first) (lead_among file h places) counted refl (among_within file h place count card places counted) found

-- a lead has the place of a card
pub lead_within : (file : FileParts) (h place count : ℕ) (card name : List ℕ) → card_count_in file h ≡ Ok count → Some (place, card) ≡ lead_in file h name → place ≤ count
lead_within file h place count card name counted found = among_within file h place count card (or_none (positions_in file h name)) counted (sym found)

-- where an HDU isn't there, an answer has no places
none_there : (answer : HduParts → Result (List ℕ) Refusal) (hdu : Option HduParts) (why : Refusal) → in_hdu (λ (one : HduParts). Ok (length one.header.cards)) hdu ≡ Err why → or_none (in_hdu answer hdu) ≡ []
none_there answer None why counted = refl
none_there answer (Some one) why counted = absurd (cc)

-- so no keyword has a lead
pub lead_gone : (file : FileParts) (h : ℕ) (name : List ℕ) (why : Refusal) → card_count_in file h ≡ Err why → None ≡ place_of_lead file h name
unfolding lead_among
lead_gone file h name why counted =
    let none : or_none (positions_in file h name) ≡ [] = none_there _ (hdu_of file h) why counted in
    ap (λ (places : List ℕ). option_map (λ (lead : ℕ × List ℕ). lead.0) (lead_among file h places)) (sym none)
