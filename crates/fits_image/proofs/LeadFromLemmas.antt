-- The lead of a name, and the cards after it.
use Rattle.std.proofs.Common.{◌≡◌, ◌⊎◌, inl, inr, ℕ, suc, ◌+◌, ◌-◌, ◌<◌, true, false, ltb, List, [], ◌∷◌, ◌++◌, length, get_or, take, drop, not, refl, ap, sym, ◌∙◌, arith, Option, None, Some, option_and_then}
use Rattle.std.specs.Prelude.{if◌then◌else◌}
use Rattle.std.specs.List.{position_or_len, slice_get}
use Rattle.std.specs.Option.{option_map}
use Rattle.std.proofs.lemmas.Bool.{cases_Bool, cond-true, cond-false, lt-ltb, ltb-true, false_from_ne_true}
use Rattle.std.proofs.lemmas.List.{get_or-drop, length-drop}
use Rattle.std.proofs.lemmas.Option.{slice_get-get_or}
use Rattle.fits_card.specs.Header.{card_at}
use Rattle.fits_rules.specs.Lead.{is_value_of, lead_card, lead_place}

-- a card, and those after it
abbrev pub From : Type 0
From = List ℕ × List (List ℕ)

-- the lead of a name and the cards after it
abbrev pub from_lead : List ℕ → List (List ℕ) → Option From
from_lead name [] = None
from_lead name (card ∷ cards) = if is_value_of name card then Some (card, cards) else from_lead name cards

-- with further cards behind
abbrev pub before_more : List (List ℕ) → From → From
before_more more from = (from.0, from.1 ++ more)

-- the lead is in the first part, or else in the second
abbrev pub or_later : Option From → Option From → Option From
or_later None later = later
or_later (Some from) later = Some from

-- of cards in two parts
pub from_lead-append : (name : List ℕ) (xs ys : List (List ℕ)) → from_lead name (xs ++ ys) ≡ or_later (option_map (before_more ys) (from_lead name xs)) (from_lead name ys)
from_lead-append name [] ys = refl
from_lead-append name (x ∷ xs) ys = elim (cases_Bool (is_value_of name x)) [
  | inl e ↦ cond-true (is_value_of name x) _ _ e ∙ sym (ap (λ from. or_later (option_map (before_more ys) from) (from_lead name ys)) (cond-true (is_value_of name x) (Some (x, xs)) (from_lead name xs) e))
  | inr e ↦ cond-false (is_value_of name x) _ _ e ∙ (from_lead-append name xs ys ∙ sym (ap (λ from. or_later (option_map (before_more ys) from) (from_lead name ys)) (cond-false (is_value_of name x) (Some (x, xs)) (from_lead name xs) e)))
]

-- where the lead of a name stands, and what is there
pub record LeadsAt (name : List ℕ) (cards : List (List ℕ)) (at : ℕ) : Type 0 where
  pub within : at < length cards
  pub card : List ℕ
  pub others : List (List ℕ)
  pub parts : drop at cards ≡ card ∷ others
  pub found : from_lead name cards ≡ Some (card, others)
  pub none : from_lead name (take at cards) ≡ None
  pub has : is_value_of name card ≡ true
  pub first : position_or_len (is_value_of name) cards ≡ at

-- or none does
pub record LeadsNowhere (name : List ℕ) (cards : List (List ℕ)) : Type 0 where
  pub none : from_lead name cards ≡ None
  pub past : position_or_len (is_value_of name) cards ≡ length cards

-- one card more before them
one_before : (name card : List ℕ) (cards : List (List ℕ)) (at : ℕ) → is_value_of name card ≡ false → LeadsAt name cards at → LeadsAt name (card ∷ cards) (suc at)
one_before name card cards at e w = record {
  within = omega (arith, w.within);
  card = w.card;
  others = w.others;
  parts = w.parts;
  found = cond-false (is_value_of name card) _ _ e ∙ w.found;
  none = cond-false (is_value_of name card) _ _ e ∙ w.none;
  has = w.has;
  first = omega (arith, cond-true (not (is_value_of name card)) (1 + position_or_len (is_value_of name) cards) 0 (ap not e), w.first);
}

-- the lead stands somewhere or not
pub leads : (name : List ℕ) (cards : List (List ℕ)) → LeadsNowhere name cards ⊎ ((at : ℕ) × LeadsAt name cards at)
leads name [] = inl (record { none = refl; past = refl })
leads name (card ∷ cards) = elim (cases_Bool (is_value_of name card)) [
  | inl e ↦ inr (
    0,
    record {
      within = omega arith;
      card = card;
      others = cards;
      parts = refl;
      found = cond-true (is_value_of name card) _ _ e;
      none = refl;
      has = e;
      first = cond-false (not (is_value_of name card)) (1 + position_or_len (is_value_of name) cards) 0 (ap not e);
    },
  )
  | inr e ↦ elim (leads name cards) [
    | inl none ↦ inl (record {
      none = cond-false (is_value_of name card) _ _ e ∙ none.none;
      past = omega (arith, cond-true (not (is_value_of name card)) (1 + position_or_len (is_value_of name) cards) 0 (ap not e), none.past);
    })
    | inr some ↦ inr (suc some.0, one_before name card cards some.0 e some.1)
  ]
]

-- the place of a lead
pub place_there : (name : List ℕ) (cards : List (List ℕ)) (at : ℕ) → LeadsAt name cards at → lead_place cards name ≡ Some (at + 1)
unfolding lead_place
place_there name cards at w = rw (w.first, lt-ltb at (length cards) w.within) refl

-- and of none
pub place_nowhere : (name : List ℕ) (cards : List (List ℕ)) → LeadsNowhere name cards → lead_place cards name ≡ None
unfolding lead_place
place_nowhere name cards w =
    let past : ltb (length cards) (length cards) ≡ false = false_from_ne_true (ltb (length cards) (length cards)) (λ e. let l = ltb-true (length cards) (length cards) e in absurd (omega arith)) in
    rw (w.past, past) refl

-- the card that cards from a place on begin with
pub got : (cards : List (List ℕ)) (at : ℕ) (card : List ℕ) (others : List (List ℕ)) → drop at cards ≡ card ∷ others → card_at cards (at + 1) ≡ Some card
got cards at card others e =
    let back : at + 1 - 1 ≡ at = omega arith in
    let within : at < length cards = let size = ap length e in omega (arith, size, length-drop at cards) in
    let same : get_or cards at [] ≡ card = ap (λ n. get_or cards n []) (plus_none at) ∙ (sym (get_or-drop at cards 0 []) ∙ ap (λ xs. get_or xs 0 []) e) in
    ap (slice_get cards) back ∙ (slice_get-get_or cards at [] within ∙ ap Some same)
  where
    plus_none : (n : ℕ) → n ≡ n + 0
    plus_none n = omega arith

-- the lead itself
pub lead_card_is : (cards : List (List ℕ)) (name : List ℕ) → lead_card cards name ≡ option_map (λ (f : From). f.0) (from_lead name cards)
unfolding lead_card
lead_card_is cards name = elim (leads name cards) [
  | inl w ↦ ap (option_and_then (card_at cards)) (place_nowhere name cards w) ∙ sym (ap (option_map (λ (f : From). f.0)) w.none)
  | inr s ↦
      let w = s.1 in
      ap (option_and_then (card_at cards)) (place_there name cards s.0 w) ∙ (got cards s.0 w.card w.others w.parts ∙ sym (ap (option_map (λ (f : From). f.0)) w.found))
]
