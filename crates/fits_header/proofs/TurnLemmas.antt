-- The lead among cards that stand one stretch after another.
use Rattle.std.proofs.Common.{◌≡◌, ℕ, suc, ◌+◌, ◌-◌, ◌<◌, ◌≤◌, nat_lt, Bool, true, false, cond, List, [], ◌++◌, length, take, drop, get_or, slice_get, Option, Some, None, ap, sym, ◌∙◌, refl, arith, append-nil, append_assoc, length-take, length-drop}
use Rattle.std.specs.List.{position_or_len, find}
use Rattle.std.specs.Option.{option_map, option_or, option_and_then}
use Rattle.std.proofs.lemmas.Bool.Decides.{nat_tests}
use Rattle.std.proofs.lemmas.List.{take_all, drop_all, drop-take, drop-drop, take-take, take-append-le, drop-append-le, length-take-le, get_or-take, get_or-drop}
use Rattle.std.proofs.lemmas.List.Folds.{find_at, find-append}
use Rattle.std.proofs.lemmas.Option.{slice_get_past}
use Rattle.std.proofs.Math.Seq.{drop-cons, take-append-add, drop-append-add}
use Rattle.fits_card.specs.Change.{only_item, spliced, moved, cards_after}
use Rattle.fits_card.specs.declared.change.Change.{Change}
use Rattle.fits_card.specs.declared.change.Change.TheVariants.{Splice, Move}
use Rattle.fits_card.specs.Header.{card_at}
use Rattle.fits_rules.specs.Lead.{is_value_of, lead_place, lead_card}
use Rattle.fits_rules.proofs.LeadCardLemmas.{lead_from, lead_to, lead_there, lead_absent}
use Rattle.fits_header.specs.Places.{cards_within, lead_place_within}
use Rattle.fits_header.specs.Stretch.{cards_in_turn, stretches_moved}
use Rattle.fits_header.specs.declared.leads.Stretch.{Stretch}
use Rattle.fits_header.proofs.HeaderLemmas.{range_of-splice, range_of-move}

-- the lead is the first card that is the name's
lead_is_first : (cards : List (List ℕ)) (name : List ℕ) → lead_card cards name ≡ find (is_value_of name) cards
unfolding lead_card lead_place
lead_is_first cards name = first_by (nat_lt at (length cards)) refl ∙ sym (find_at (is_value_of name) cards)
  where
    at : ℕ
    at = position_or_len (is_value_of name) cards

    first_by : (b : Bool) → nat_lt at (length cards) ≡ b → option_and_then (card_at cards) (option_map (λ i. i + 1) (cond b (Some at) None)) ≡ slice_get cards at
    first_by true e = ap (slice_get cards) {x = at + 1 - 1} {y = at} (omega arith)
    first_by false e = let past : length cards ≤ at = grind (arith, nat_tests) in sym (slice_get_past cards at past)

-- the lead of cards and others is that of the first, or else that of the others
pub lead-append : (xs ys : List (List ℕ)) (name : List ℕ) → lead_card (xs ++ ys) name ≡ option_or (lead_card xs name) (lead_card ys name)
lead-append xs ys name =
    lead_is_first (xs ++ ys) name
    ∙ (find-append (is_value_of name) xs ys ∙ rw (lead_is_first xs name, lead_is_first ys name) refl)

-- it is among the first
pub lead_before : (xs ys : List (List ℕ)) (name card : List ℕ) → Some card ≡ lead_card xs name → Some card ≡ lead_card (xs ++ ys) name
lead_before xs ys name card e = sym (lead-append xs ys name ∙ ap (λ o. option_or o (lead_card ys name)) (sym e))

-- it is not
pub lead_behind : (xs ys : List (List ℕ)) (name : List ℕ) → None ≡ lead_card xs name → lead_card ys name ≡ lead_card (xs ++ ys) name
lead_behind xs ys name e = sym (lead-append xs ys name ∙ ap (λ o. option_or o (lead_card ys name)) (sym e))

-- a place in a stretch is one among all cards
place_by : (from : ℕ) (o : Option ℕ) (place : ℕ) → Some place ≡ option_map (λ p. p + (from - 1)) o → (k : ℕ) × (o ≡ Some k) × (place ≡ k + (from - 1))
place_by from None place e = absurd (cc)
place_by from (Some k) place e = (k, refl, cc)

-- no place in a stretch
none_by : (from : ℕ) (o : Option ℕ) → None ≡ option_map (λ p. p + (from - 1)) o → None ≡ o
none_by from None e = refl
none_by from (Some k) e = absurd (cc)

-- how many cards a stretch has
within_length : (cards : List (List ℕ)) (from to : ℕ) → (length (cards_within cards from to) ≤ to - from) × (length (cards_within cards from to) ≤ length cards - (from - 1))
within_length cards from to =
    let taken = length-take (to - from) (drop (from - 1) cards) in
    let left = length-drop (from - 1) cards in
    (omega (arith, taken, left), omega (arith, taken, left))

-- the lead's place is 1 at least
pub within_from : (cards : List (List ℕ)) (name : List ℕ) (from to place : ℕ) → Some place ≡ lead_place_within cards name from to → 1 ≤ place
within_from cards name from to place e =
    let p = place_by from (lead_place (cards_within cards from to) name) place e in
    omega (arith, lead_from (cards_within cards from to) name p.0 (sym p.1), p.2)

-- and at most that of the last card
pub within_to : (cards : List (List ℕ)) (name : List ℕ) (from to place : ℕ) → Some place ≡ lead_place_within cards name from to → place ≤ length cards
within_to cards name from to place e =
    let p = place_by from (lead_place (cards_within cards from to) name) place e in
    omega (arith, lead_from (cards_within cards from to) name p.0 (sym p.1), lead_to (cards_within cards from to) name p.0 (sym p.1), p.2, (within_length cards from to).1)

-- the card there is the lead of the stretch
pub within_there : (cards : List (List ℕ)) (name card : List ℕ) (from to place : ℕ) → Some place ≡ lead_place_within cards name from to → card ≡ get_or cards (place - 1) card → Some card ≡ lead_card (cards_within cards from to) name
within_there cards name card from to place e is =
    let p = place_by from (lead_place (cards_within cards from to) name) place e in
    let low = lead_from (cards_within cards from to) name p.0 (sym p.1) in
    let high = lead_to (cards_within cards from to) name p.0 (sym p.1) in
    let here : get_or (cards_within cards from to) (p.0 - 1) card ≡ get_or cards (place - 1) card =
    get_or-take (to - from) (drop (from - 1) cards) (p.0 - 1) card (omega (arith, low, high, (within_length cards from to).0))
    ∙ (get_or-drop (from - 1) cards (p.0 - 1) card ∙ ap (λ k. get_or cards k card) (omega (arith, low, p.2))) in
    lead_there (cards_within cards from to) name card p.0 (sym p.1) (is ∙ sym here)

-- without a place the stretch has none
pub within_absent : (cards : List (List ℕ)) (name : List ℕ) (from to : ℕ) → None ≡ lead_place_within cards name from to → None ≡ lead_card (cards_within cards from to) name
within_absent cards name from to e = lead_absent (cards_within cards from to) name (none_by from (lead_place (cards_within cards from to) name) e)

pub ruleset within_steps = (within_from, within_to, within_there, within_absent)

-- the stretches from one on
turn_parts : (cards : List (List ℕ)) (ss : List Stretch) (i : ℕ) (d : Stretch) → i < length ss → cards_in_turn cards (drop i ss) ≡ cards_within cards (get_or ss i d).from (get_or ss i d).to ++ cards_in_turn cards (drop (i + 1) ss)
turn_parts cards ss i d within =
    ap (cards_in_turn cards) (drop-cons ss i d within)
    ∙ ap (λ k. cards_within cards (get_or ss i d).from (get_or ss i d).to ++ cards_in_turn cards (drop k ss)) {x = suc i} {y = i + 1} (omega arith)

-- the lead is in this one
pub turn-here : (read cards : List (List ℕ)) (ss : List Stretch) (i : ℕ) (d : Stretch) (name card : List ℕ) (o : Option (List ℕ)) → read ≡ cards → lead_card (cards_in_turn cards (drop i ss)) name ≡ o → i < length ss
    → Some card ≡ lead_card (cards_within read (get_or ss i d).from (get_or ss i d).to) name → Some card ≡ o
turn-here read cards ss i d name card o same rest within e =
    lead_before (cards_within cards (get_or ss i d).from (get_or ss i d).to) (cards_in_turn cards (drop (i + 1) ss)) name card (rw same at e)
    ∙ (ap (λ cs. lead_card cs name) (sym (turn_parts cards ss i d within)) ∙ rest)

-- it is in none so far
pub turn-more : (read cards : List (List ℕ)) (ss : List Stretch) (i : ℕ) (d : Stretch) (name : List ℕ) (o : Option (List ℕ)) → read ≡ cards → lead_card (cards_in_turn cards (drop i ss)) name ≡ o → i < length ss
    → None ≡ lead_card (cards_within read (get_or ss i d).from (get_or ss i d).to) name → lead_card (cards_in_turn cards (drop (i + 1) ss)) name ≡ o
turn-more read cards ss i d name o same rest within e =
    lead_behind (cards_within cards (get_or ss i d).from (get_or ss i d).to) (cards_in_turn cards (drop (i + 1) ss)) name (rw same at e)
    ∙ (ap (λ cs. lead_card cs name) (sym (turn_parts cards ss i d within)) ∙ rest)

-- no card has no lead
no_lead : (name : List ℕ) → lead_card [] name ≡ None
no_lead name = lead_is_first [] name

-- it is in none
pub turn-end : (cards : List (List ℕ)) (ss : List Stretch) (i : ℕ) (name : List ℕ) (o : Option (List ℕ)) → lead_card (cards_in_turn cards (drop i ss)) name ≡ o → length ss ≤ i → None ≡ o
turn-end cards ss i name o rest end = sym (no_lead name) ∙ (ap (λ ss. lead_card (cards_in_turn cards ss) name) (sym (drop_all i ss end)) ∙ rest)

pub ruleset turn_steps = (turn-end)

-- all cards from a place on
to_end : (cards : List (List ℕ)) (from k : ℕ) → from ≡ k + 1 → cards_within cards from (length cards + 1) ≡ drop k cards
to_end cards from k is =
    take_all (length cards + 1 - from) (drop (from - 1) cards) (omega (arith, length-drop (from - 1) cards))
    ∙ ap (λ n. drop n cards) {x = from - 1} {y = k} (omega arith)

-- the lead of a splice is before it
pub splice-before : (cards new : List (List ℕ)) (place removed : ℕ) (name card : List ℕ) → Some card ≡ lead_card (cards_within cards 1 place) name → Some card ≡ lead_card (spliced cards place removed new) name
splice-before cards new place removed name card e = lead_before (take (place - 1) cards) (new ++ drop (place - 1 + removed) cards) name card e

-- it is new
pub splice-new : (cards new : List (List ℕ)) (place removed : ℕ) (name card : List ℕ) → None ≡ lead_card (cards_within cards 1 place) name → Some card ≡ lead_card new name → Some card ≡ lead_card (spliced cards place removed new) name
splice-new cards new place removed name card none e =
    lead_before new (drop (place - 1 + removed) cards) name card e ∙ lead_behind (take (place - 1) cards) (new ++ drop (place - 1 + removed) cards) name none

-- it is behind the new ones, or nowhere
pub splice-behind : (cards new : List (List ℕ)) (place removed end : ℕ) (name : List ℕ) → 1 ≤ place → end ≡ length cards + 1 → None ≡ lead_card (cards_within cards 1 place) name → None ≡ lead_card new name
    → lead_card (cards_within cards (place + removed) end) name ≡ lead_card (spliced cards place removed new) name
splice-behind cards new place removed end name one is none empty =
    ap (λ cs. lead_card cs name) (ap (cards_within cards (place + removed)) is ∙ to_end cards (place + removed) (place - 1 + removed) (omega arith))
    ∙ (lead_behind new (drop (place - 1 + removed) cards) name empty ∙ lead_behind (take (place - 1) cards) (new ++ drop (place - 1 + removed) cards) name none)

pub ruleset splice_steps = (splice-before, splice-new, splice-behind)

-- a card before those that it moves over
moved_up : (cards : List (List ℕ)) (from to : ℕ) → 1 ≤ to → to < from → from ≤ length cards
    → moved cards from to ≡ cards_within cards 1 to ++ (cards_within cards from (from + 1) ++ (cards_within cards to from ++ (cards_within cards (from + 1) (length cards + 1) ++ [])))
moved_up cards from to one less within =
    let front = take (from - 1) cards in
    let rest = drop (from - 1 + 1) cards in
    let size : length front ≡ from - 1 = length-take-le (from - 1) cards (omega arith) in
    let first : take (to - 1) (front ++ rest) ≡ cards_within cards 1 to =
    take-append-le (to - 1) front rest (omega (arith, size)) ∙ take-take (to - 1) (from - 1) cards (omega arith) in
    let over : drop (to - 1) front ≡ cards_within cards to from =
    ap (λ n. drop (to - 1) (take n cards)) {x = from - 1} {y = to - 1 + (from - to)} (omega arith) ∙ drop-take (to - 1) (from - to) cards in
    let last : rest ≡ cards_within cards (from + 1) (length cards + 1) = sym (to_end cards (from + 1) (from - 1 + 1) (omega arith)) in
    let behind : drop (to - 1 + 0) (front ++ rest) ≡ cards_within cards to from ++ (cards_within cards (from + 1) (length cards + 1) ++ []) =
    ap (λ n. drop n (front ++ rest)) {x = to - 1 + 0} {y = to - 1} (omega arith)
    ∙ (drop-append-le (to - 1) front rest (omega (arith, size))
    ∙ (ap (λ ys. ys ++ rest) over ∙ ap (λ ys. cards_within cards to from ++ ys) (last ∙ sym (append-nil (cards_within cards (from + 1) (length cards + 1)))))) in
    let item : only_item cards from ≡ cards_within cards from (from + 1) = ap (λ n. take n (drop (from - 1) cards)) {x = 1} {y = from + 1 - from} (omega arith) in
    rw (first, item, behind) refl

-- a card behind those that it moves over, or where it is
moved_down : (cards : List (List ℕ)) (from to : ℕ) → 1 ≤ from → from ≤ to → to ≤ length cards
    → moved cards from to ≡ cards_within cards 1 from ++ (cards_within cards (from + 1) (to + 1) ++ (cards_within cards from (from + 1) ++ (cards_within cards (to + 1) (length cards + 1) ++ [])))
moved_down cards from to one less within =
    let front = take (from - 1) cards in
    let rest = drop (from - 1 + 1) cards in
    let size : length front ≡ from - 1 = length-take-le (from - 1) cards (omega arith) in
    let over : take (to - from) rest ≡ cards_within cards (from + 1) (to + 1) =
    ap (λ n. take n rest) {x = to - from} {y = to + 1 - (from + 1)} (omega arith) ∙ ap (λ n. take (to + 1 - (from + 1)) (drop n cards)) {x = from - 1 + 1} {y = from + 1 - 1} (omega arith) in
    let first : take (to - 1) (front ++ rest) ≡ cards_within cards 1 from ++ cards_within cards (from + 1) (to + 1) =
    ap (λ n. take n (front ++ rest)) {x = to - 1} {y = length front + (to - from)} (omega (arith, size))
    ∙ (take-append-add front rest (to - from) ∙ ap (λ ys. front ++ ys) over) in
    let last : drop (to - from) rest ≡ cards_within cards (to + 1) (length cards + 1) =
    drop-drop (to - from) (from - 1 + 1) cards ∙ sym (to_end cards (to + 1) (from - 1 + 1 + (to - from)) (omega arith)) in
    let behind : drop (to - 1 + 0) (front ++ rest) ≡ cards_within cards (to + 1) (length cards + 1) ++ [] =
    ap (λ n. drop n (front ++ rest)) {x = to - 1 + 0} {y = length front + (to - from)} (omega (arith, size))
    ∙ (drop-append-add front rest (to - from) ∙ (last ∙ sym (append-nil (cards_within cards (to + 1) (length cards + 1))))) in
    let item : only_item cards from ≡ cards_within cards from (from + 1) = ap (λ n. take n (drop (from - 1) cards)) {x = 1} {y = from + 1 - from} (omega arith) in
    rw (first, item, behind) (append_assoc (cards_within cards 1 from) (cards_within cards (from + 1) (to + 1)) (cards_within cards from (from + 1) ++ (cards_within cards (to + 1) (length cards + 1) ++ [])))

-- the cards after a move are those of its stretches
pub moved-in_turn : (cards : List (List ℕ)) (from to end : ℕ) → 1 ≤ from → from ≤ length cards → 1 ≤ to → to ≤ length cards → end ≡ length cards + 1 → cards_in_turn cards (stretches_moved from to end) ≡ moved cards from to
moved-in_turn cards from to end one within first last is =
    ap (λ n. cards_in_turn cards (stretches_moved from to n)) is ∙ turn_by (nat_lt to from) refl
  where
    turn_by : (b : Bool) → nat_lt to from ≡ b → cards_in_turn cards (stretches_moved from to (length cards + 1)) ≡ moved cards from to
    turn_by true e = let less : to < from = grind (arith, nat_tests) in rw e (sym (moved_up cards from to first less within))
    turn_by false e = let more : from ≤ to = grind (arith, nat_tests) in rw e (sym (moved_down cards from to one more last))

-- so the lead is that of the stretches
pub lead-moved : (cards : List (List ℕ)) (ss : List Stretch) (from to end : ℕ) (name : List ℕ) → 1 ≤ from → from ≤ length cards → 1 ≤ to → to ≤ length cards → end ≡ length cards + 1 → ss ≡ stretches_moved from to end
    → lead_card (cards_in_turn cards ss) name ≡ lead_card (moved cards from to) name
lead-moved cards ss from to end name one within first last is order =
    ap (λ cs. lead_card cs name) (ap (cards_in_turn cards) order ∙ moved-in_turn cards from to end one within first last is)

pub ruleset move_steps = (lead-moved)

-- the lead after a splice
pub lead_after-splice : (cards new : List (List ℕ)) (change : Change) (place removed : ℕ) (name : List ℕ) → change ≡ Splice place removed new → lead_card (spliced cards place removed new) name ≡ lead_card (cards_after cards change) name
unfolding cards_after
lead_after-splice cards new change place removed name is = rw is refl

-- the lead after a move
pub lead_after-move : (cards : List (List ℕ)) (change : Change) (from to : ℕ) (name : List ℕ) → change ≡ Move from to → lead_card (moved cards from to) name ≡ lead_card (cards_after cards change) name
unfolding cards_after
lead_after-move cards change from to name is = rw is refl

pub ruleset change_steps = (lead_after-splice, lead_after-move, range_of-splice, range_of-move)

-- the lead from one card on
lead_parts : (cards : List (List ℕ)) (i : ℕ) (name card : List ℕ) → i < length cards → card ≡ get_or cards i card → lead_card (drop i cards) name ≡ cond (is_value_of name card) (Some card) (lead_card (drop (i + 1) cards) name)
lead_parts cards i name card within is =
    lead_is_first (drop i cards) name
    ∙ (ap (find (is_value_of name)) (drop-cons cards i card within)
    ∙ (ap (λ c. cond (is_value_of name c) (Some c) (find (is_value_of name) (drop (suc i) cards))) (sym is)
    ∙ ap (cond (is_value_of name card) (Some card)) (sym (lead_is_first (drop (suc i) cards) name) ∙ ap (λ k. lead_card (drop k cards) name) {x = suc i} {y = i + 1} (omega arith))))

-- it is this card
pub hand-here : (cards : List (List ℕ)) (i : ℕ) (name card : List ℕ) (o : Option (List ℕ)) → lead_card (drop i cards) name ≡ o → i < length cards → card ≡ get_or cards i card → is_value_of name card ≡ true → Some card ≡ o
hand-here cards i name card o rest within is passes = sym (lead_parts cards i name card within is ∙ rw passes refl) ∙ rest

-- it is none so far
pub hand-more : (cards : List (List ℕ)) (i : ℕ) (name card : List ℕ) (o : Option (List ℕ)) → lead_card (drop i cards) name ≡ o → i < length cards → card ≡ get_or cards i card → is_value_of name card ≡ false → lead_card (drop (i + 1) cards) name ≡ o
hand-more cards i name card o rest within is fails = sym (lead_parts cards i name card within is ∙ rw fails refl) ∙ rest

-- it is none
pub hand-end : (cards : List (List ℕ)) (i : ℕ) (name : List ℕ) (o : Option (List ℕ)) → lead_card (drop i cards) name ≡ o → length cards ≤ i → None ≡ o
hand-end cards i name o rest end = sym (no_lead name) ∙ (ap (λ cs. lead_card cs name) (sym (drop_all i cards end)) ∙ rest)

pub ruleset hand_steps = (hand-here, hand-more, hand-end)
