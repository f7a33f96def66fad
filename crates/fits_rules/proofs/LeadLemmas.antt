-- The first card of a name that has a value.
use Rattle.std.proofs.Common.{◌≡◌, ℕ, ◌+◌, ◌-◌, ◌<◌, ◌≤◌, true, false, List, [], length, get_or, slice_get, Some, None, refl, ap, sym, ◌∙◌, ⊎_elim, arith}
use Rattle.std.specs.List.{position_or_len}
use Rattle.std.proofs.lemmas.List.{get_or_default}
use Rattle.std.proofs.lemmas.List.Sums.{position_or_len_is}
use Rattle.std.proofs.lemmas.Bool.{lt-ltb, le-ltb, cases_lt}
use Rattle.std.proofs.lemmas.Option.{slice_get_past, slice_get_within, get_or_from_slice_get}
use Rattle.fits_card.specs.Header.{card_at}
use Rattle.fits_rules.specs.Lead.{is_value_of, lead_place}

-- none of the first cards is the lead
pub record NoneBefore (cards : List (List ℕ)) (name : List ℕ) (count : ℕ) : Type 0 where
  pub none : (k : ℕ) → k < count → is_value_of name (get_or cards k []) ≡ false

-- none is before the first card
pub none_at_first : (cards : List (List ℕ)) (name : List ℕ) → NoneBefore cards name 0
none_at_first cards name = record { none = λ k h. absurd (omega arith) }

-- nor is one more
none_more : (cards : List (List ℕ)) (name : List ℕ) (i : ℕ) → NoneBefore cards name i → is_value_of name (get_or cards i []) ≡ false → NoneBefore cards name (i + 1)
none_more cards name i before here = record { none = λ k h. ⊎_elim (λ lt. before.none k lt) (λ ge. rw (same k h ge) here) (cases_lt k i) }
  where
    same : (k : ℕ) → k < i + 1 → i ≤ k → k ≡ i
    same k h ge = omega arith

-- the first one that is
pub lead_at : (cards : List (List ℕ)) (name : List ℕ) (i : ℕ) → NoneBefore cards name i → i < length cards → is_value_of name (get_or cards i []) ≡ true → Some (i + 1) ≡ lead_place cards name
unfolding lead_place
lead_at cards name i before within here =
    let at : position_or_len (is_value_of name) cards ≡ i = position_or_len_is (is_value_of name) cards i [] (omega arith) before.none (λ _. here) in
    rw (at, lt-ltb i (length cards) within) refl

-- or none is
pub lead_nowhere : (cards : List (List ℕ)) (name : List ℕ) (i : ℕ) → NoneBefore cards name i → i ≡ length cards → None ≡ lead_place cards name
unfolding lead_place
lead_nowhere cards name i before end =
    let at : position_or_len (is_value_of name) cards ≡ length cards = position_or_len_is (is_value_of name) cards (length cards) [] (omega arith) (λ k h. before.none k (omega arith)) (λ h. absurd (omega arith)) in
    rw (at, le-ltb (length cards) (length cards) (omega arith)) refl

-- a card that was read by its index
read_at : (cards : List (List ℕ)) (i : ℕ) (card : List ℕ) → i < length cards → card ≡ get_or cards (i + 1 - 1) card → get_or cards i [] ≡ card
read_at cards i card within is = get_or_default cards i [] card within ∙ sym (is ∙ ap (λ k. get_or cards k card) (omega arith))

-- it is not the lead
pub read_more : (cards : List (List ℕ)) (name : List ℕ) (i : ℕ) (card : List ℕ) → NoneBefore cards name i → i < length cards → card ≡ get_or cards (i + 1 - 1) card → is_value_of name card ≡ false → NoneBefore cards name (i + 1)
read_more cards name i card before within is here = none_more cards name i before (rw (read_at cards i card within is) here)

-- it is the lead
pub read_here : (cards : List (List ℕ)) (name : List ℕ) (i : ℕ) (card : List ℕ) → NoneBefore cards name i → i < length cards → card ≡ get_or cards (i + 1 - 1) card → is_value_of name card ≡ true → Some (i + 1) ≡ lead_place cards name
read_here cards name i card before within is here = lead_at cards name i before within (rw (read_at cards i card within is) here)

-- a card that was got by its index
got_at : (cards : List (List ℕ)) (i : ℕ) (card : List ℕ) → slice_get cards (i + 1 - 1) ≡ Some card → get_or cards i [] ≡ card
got_at cards i card got = get_or_from_slice_get cards i card [] (rw (same i) at got)
  where
    same : (i : ℕ) → i + 1 - 1 ≡ i
    same i = omega arith

-- it is not the lead
pub got_more : (cards : List (List ℕ)) (name : List ℕ) (i : ℕ) (card : List ℕ) → NoneBefore cards name i → slice_get cards (i + 1 - 1) ≡ Some card → is_value_of name card ≡ false → NoneBefore cards name (i + 1)
got_more cards name i card before got here = none_more cards name i before (rw (got_at cards i card got) here)

-- it is the lead
pub got_here : (cards : List (List ℕ)) (name : List ℕ) (i : ℕ) (card : List ℕ) → NoneBefore cards name i → slice_get cards (i + 1 - 1) ≡ Some card → is_value_of name card ≡ true → Some (i + 1) ≡ lead_place cards name
got_here cards name i card before got here =
    let within : i + 1 - 1 < length cards = slice_get_within cards (i + 1 - 1) card got in
    lead_at cards name i before (omega arith) (rw (got_at cards i card got) here)

pub ruleset lead_steps = (none_at_first, lead_nowhere, read_more, read_here, got_more, got_here)

-- a place past the last card has none
pub no_card_at : (cards : List (List ℕ)) (place : ℕ) → length cards < place → None ≡ card_at cards place
no_card_at cards place past = sym (slice_get_past cards (place - 1) (omega arith))

pub ruleset card_steps = (no_card_at)
