-- The lead as a card of a header.
use Rattle.std.proofs.Common.{◌≡◌, ℕ, ◌+◌, ◌-◌, ◌<◌, ◌≤◌, cond, List, [], ◌∷◌, ◌++◌, length, get_or, take, Option, Some, None, unwrap_or, inl, inr, refl, sym, ◌∙◌, ap, arith}
use Rattle.std.specs.Prelude.{nat_lt}
use Rattle.std.specs.List.{find, position, position_or_len, slice_get}
use Rattle.std.specs.Option.{option_map, option_and_then, option_or}
use Rattle.std.proofs.lemmas.Bool.{cases_Bool, cond-true, cond-false, ltb-false}
use Rattle.std.proofs.lemmas.List.{take_more}
use Rattle.std.proofs.lemmas.List.Folds.{find-append, find_at}
use Rattle.std.proofs.lemmas.List.Quantifiers.{position-Some}
use Rattle.std.proofs.lemmas.Option.{slice_get-get_or, slice_get_past}
use Rattle.fits_card.specs.Header.{card_at}
use Rattle.fits_rules.specs.Lead.{is_value_of, lead_place, lead_card}

-- one more than an index below a number
next_within : (o : Option ℕ) (n place : ℕ) → ((i : ℕ) → o ≡ Some i → i < n) → option_map (λ i. i + 1) o ≡ Some place → (1 ≤ place) × (place ≤ n)
next_within None n place below e = cc
next_within (Some i) n place below e =
    let next : i + 1 ≡ place = cc in
    (omega (arith, below i refl), omega (arith, below i refl))

-- the lead's place is one of its cards'
pub lead_within : (cards : List (List ℕ)) (name : List ℕ) (place : ℕ) → lead_place cards name ≡ Some place → (1 ≤ place) × (place ≤ length cards)
unfolding lead_place
lead_within cards name place e =
    next_within (position (is_value_of name) cards) (length cards) place (λ i p. (position-Some (is_value_of name) cards i [] p).0) e

-- its place is 1 at least
pub lead_from : (cards : List (List ℕ)) (name : List ℕ) (place : ℕ) → Some place ≡ lead_place cards name → 1 ≤ place
lead_from cards name place e = (lead_within cards name place (sym e)).0

-- and at most that of the last card
pub lead_to : (cards : List (List ℕ)) (name : List ℕ) (place : ℕ) → Some place ≡ lead_place cards name → place ≤ length cards
lead_to cards name place e = (lead_within cards name place (sym e)).1

-- so as many cards are there as are read to find it
pub lead_reads : (cards : List (List ℕ)) (name : List ℕ) (found : Option ℕ) → found ≡ lead_place cards name → unwrap_or found (length cards) ≤ length cards
lead_reads cards name None is = omega arith
lead_reads cards name (Some place) is = lead_to cards name place is

-- the card there is the lead
pub lead_there : (cards : List (List ℕ)) (name card : List ℕ) (place : ℕ) → Some place ≡ lead_place cards name → card ≡ get_or cards (place - 1) card → Some card ≡ lead_card cards name
unfolding lead_card
lead_there cards name card place e is =
    let from : 1 ≤ place = lead_from cards name place e in
    let to : place ≤ length cards = lead_to cards name place e in
    let got : slice_get cards (place - 1) ≡ Some card = slice_get-get_or cards (place - 1) card (omega arith) ∙ ap Some (sym is) in
    sym (ap (option_and_then (card_at cards)) (sym e) ∙ got)

-- without a place there is no lead
pub lead_absent : (cards : List (List ℕ)) (name : List ℕ) → None ≡ lead_place cards name → None ≡ lead_card cards name
unfolding lead_card
lead_absent cards name e = ap (option_and_then (card_at cards)) e

pub ruleset lead_card_steps = (lead_from, lead_to, lead_there, lead_absent)

-- the lead is the first card that has the name and a value
pub lead_card-find : (cards : List (List ℕ)) (name : List ℕ) → lead_card cards name ≡ find (is_value_of name) cards
unfolding lead_card lead_place
lead_card-find cards name =
    let at = position_or_len (is_value_of name) cards in
    elim (cases_Bool (nat_lt at (length cards))) [
      | inl within ↦
          ap (λ o. option_and_then (card_at cards) (option_map (λ index. index + 1) o)) (cond-true (nat_lt at (length cards)) (Some at) None within)
          ∙ (ap (slice_get cards) (omega arith) ∙ sym (find_at (is_value_of name) cards))
      | inr past ↦
          ap (λ o. option_and_then (card_at cards) (option_map (λ index. index + 1) o)) (cond-false (nat_lt at (length cards)) (Some at) None past)
          ∙ sym (find_at (is_value_of name) cards ∙ slice_get_past cards at (ltb-false at (length cards) past))
    ]

-- no lead is among no cards
pub lead_before : (cards : List (List ℕ)) (name : List ℕ) → None ≡ lead_card (take 0 cards) name
lead_before cards name = sym (lead_card-find [] name)

-- the next card is the lead where none came before it
pub lead_next : (cards : List (List ℕ)) (name card : List ℕ) (i : ℕ) (lead next : Option (List ℕ)) → i < length cards → card ≡ get_or cards (i + 1 - 1) card → lead ≡ lead_card (take i cards) name → next ≡ option_or lead (cond (is_value_of name card) (Some card) None) → next ≡ lead_card (take (i + 1) cards) name
lead_next cards name card i lead next within is before here =
    let p = is_value_of name in
    let same : card ≡ get_or cards i card = is ∙ ap (λ k. get_or cards k card) (omega arith) in
    let more : take (i + 1) cards ≡ take i cards ++ card ∷ [] = take_more cards i card within ∙ ap (λ c. take i cards ++ c ∷ []) (sym same) in
    here
    ∙ (ap (λ o. option_or o (cond (p card) (Some card) None)) (before ∙ lead_card-find (take i cards) name)
    ∙ sym (lead_card-find (take (i + 1) cards) name ∙ (ap (find p) more ∙ find-append p (take i cards) (card ∷ []))))
