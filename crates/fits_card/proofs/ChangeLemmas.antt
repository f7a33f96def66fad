-- Which card stands where after a change.
use Rattle.std.proofs.Common.{◌≡◌, ℕ, ◌+◌, ◌-◌, ◌<◌, ◌≤◌, List, [], ◌++◌, length, get_or, take, drop, slice_get, Some, ap, sym, ◌∙◌, refl, ◌⊎◌, inl, inr, arith}
use Rattle.std.proofs.lemmas.List.{length-append, length-take, length-drop, length-take-le, get_or_append_left, get_or-append_right, get_or-take, get_or-drop}
use Rattle.std.proofs.lemmas.Option.{slice_get-get_or}
use Rattle.fits_card.specs.Change.{spliced, moved, only_item}

-- how many cards a splice leaves
pub length-spliced : (cards new : List (List ℕ)) (first removed : ℕ) → 1 ≤ first → first + removed ≤ length cards + 1 → length (spliced cards first removed new) + removed ≡ length cards + length new
length-spliced cards new first removed from fits =
    omega (arith, length-append (take (first - 1) cards) (new ++ drop (first - 1 + removed) cards), length-append new (drop (first - 1 + removed) cards), length-take-le (first - 1) cards (omega arith), length-drop (first - 1 + removed) cards)

-- before the splice
get_or-before : (cards new : List (List ℕ)) (first removed i : ℕ) (d : List ℕ) → first - 1 ≤ length cards → i < first - 1 → get_or (spliced cards first removed new) i d ≡ get_or cards i d
get_or-before cards new first removed i d fits before =
    get_or_append_left (take (first - 1) cards) (new ++ drop (first - 1 + removed) cards) d i (omega (arith, length-take-le (first - 1) cards fits)) ∙ get_or-take (first - 1) cards i d before

-- from its place on
get_or-past : (cards new : List (List ℕ)) (first removed i : ℕ) (d : List ℕ) → first - 1 ≤ length cards → first - 1 ≤ i → get_or (spliced cards first removed new) i d ≡ get_or (new ++ drop (first - 1 + removed) cards) (i - (first - 1)) d
get_or-past cards new first removed i d fits past =
    get_or-append_right (take (first - 1) cards) (new ++ drop (first - 1 + removed) cards) (first - 1) i d (length-take-le (first - 1) cards fits) past

-- among the new cards
get_or-among : (cards new : List (List ℕ)) (first removed i : ℕ) (d : List ℕ) → first - 1 ≤ length cards → first - 1 ≤ i → i - (first - 1) < length new → get_or (spliced cards first removed new) i d ≡ get_or new (i - (first - 1)) d
get_or-among cards new first removed i d fits past among =
    get_or-past cards new first removed i d fits past ∙ get_or_append_left new (drop (first - 1 + removed) cards) d (i - (first - 1)) among

-- after them
get_or-after : (cards new : List (List ℕ)) (first removed i j : ℕ) (d : List ℕ) → first - 1 ≤ length cards → first - 1 + length new ≤ i → i + removed ≡ j + length new → get_or (spliced cards first removed new) i d ≡ get_or cards j d
get_or-after cards new first removed i j d fits behind same =
    get_or-past cards new first removed i d fits (omega arith)
    ∙ (get_or-append_right new (drop (first - 1 + removed) cards) (length new) (i - (first - 1)) d refl (omega arith)
    ∙ (get_or-drop (first - 1 + removed) cards (i - (first - 1) - length new) d
    ∙ ap (λ k. get_or cards k d) (omega arith)))

-- a card that is there
some_card : (cards : List (List ℕ)) (i : ℕ) (card : List ℕ) → i < length cards → card ≡ get_or cards i card → slice_get cards i ≡ Some card
some_card cards i card within is = slice_get-get_or cards i card within ∙ ap Some (sym is)

-- a card before the place stays where it is
pub spliced-before : (cards new : List (List ℕ)) (first removed place : ℕ) (card : List ℕ) → 1 ≤ first → first + removed ≤ length cards + 1 → 1 ≤ place → place < first → card ≡ get_or cards (place - 1) card → slice_get (spliced cards first removed new) (place - 1) ≡ Some card
spliced-before cards new first removed place card from fits one before is =
    some_card (spliced cards first removed new) (place - 1) card (omega (arith, length-spliced cards new first removed from fits)) (is ∙ sym (get_or-before cards new first removed (place - 1) card (omega arith) (omega arith)))

-- from the place on stand the new cards
pub spliced-among : (cards new : List (List ℕ)) (first removed place : ℕ) (card : List ℕ) → 1 ≤ first → first + removed ≤ length cards + 1 → first ≤ place → place - first < length new → card ≡ get_or new (place - first) card → slice_get (spliced cards first removed new) (place - 1) ≡ Some card
spliced-among cards new first removed place card from fits past among is =
    let index : place - first ≡ place - 1 - (first - 1) = omega arith in
    some_card (spliced cards first removed new) (place - 1) card (omega (arith, length-spliced cards new first removed from fits)) (is ∙ (ap (λ k. get_or new k card) index ∙ sym (get_or-among cards new first removed (place - 1) card (omega arith) (omega arith) (omega arith))))

-- a card after those that go stands as far from the end as before
pub spliced-after : (cards new : List (List ℕ)) (first removed place old : ℕ) (card : List ℕ) → 1 ≤ first → first + removed ≤ length cards + 1 → first + length new ≤ place → place ≤ length (spliced cards first removed new) → place + removed ≡ old + length new → card ≡ get_or cards (old - 1) card → slice_get (spliced cards first removed new) (place - 1) ≡ Some card
spliced-after cards new first removed place old card from fits behind within same is =
    some_card (spliced cards first removed new) (place - 1) card (omega arith) (is ∙ sym (get_or-after cards new first removed (place - 1) (old - 1) card (omega arith) (omega arith) (omega arith)))

-- one card
length-only_item : (cards : List (List ℕ)) (place : ℕ) → 1 ≤ place → place ≤ length cards → length (only_item cards place) ≡ 1
length-only_item cards place one within = omega (arith, length-take 1 (drop (place - 1) cards), length-drop (place - 1) cards)

-- it is the card at the place
get_or-only_item : (cards : List (List ℕ)) (place : ℕ) (d : List ℕ) → get_or (only_item cards place) 0 d ≡ get_or cards (place - 1) d
get_or-only_item cards place d = get_or-take 1 (drop (place - 1) cards) 0 d (omega arith) ∙ (get_or-drop (place - 1) cards 0 d ∙ ap (λ k. get_or cards k d) (omega arith))

-- all cards but one
length-others : (cards : List (List ℕ)) (from : ℕ) → 1 ≤ from → from ≤ length cards → length (spliced cards from 1 []) + 1 ≡ length cards
length-others cards from one within = omega (arith, length-spliced cards [] from 1 one (omega arith))

-- a move leaves as many cards
pub length-moved : (cards : List (List ℕ)) (from to : ℕ) → 1 ≤ from → from ≤ length cards → 1 ≤ to → to ≤ length cards → length (moved cards from to) ≡ length cards
length-moved cards from to one within first last =
    let others = spliced cards from 1 [] in
    omega (arith, length-others cards from one within, length-only_item cards from one within, length-spliced others (only_item cards from) to 0 first (omega (arith, length-others cards from one within)))

-- the moved card
pub moved-there : (cards : List (List ℕ)) (from to : ℕ) (card : List ℕ) → 1 ≤ from → from ≤ length cards → 1 ≤ to → to ≤ length cards → card ≡ get_or cards (from - 1) card → slice_get (moved cards from to) (to - 1) ≡ Some card
moved-there cards from to card one within first last is =
    let others = spliced cards from 1 [] in
    let size = length-others cards from one within in
    let there = length-only_item cards from one within in
    some_card (moved cards from to) (to - 1) card (omega (arith, length-moved cards from to one within first last))
    (is ∙ sym (get_or-among others (only_item cards from) to 0 (to - 1) card (omega arith) (omega arith) (omega arith) ∙ (ap (λ k. get_or (only_item cards from) k card) (omega arith) ∙ get_or-only_item cards from card)))

-- places among others begin with 1
among_start : (to place among : ℕ) → 1 ≤ to → 1 ≤ place → ((place < to) × (among ≡ place)) ⊎ ((to < place) × (among + 1 ≡ place)) → 1 ≤ among
among_start to place among first start (inl (before, same)) = omega arith
among_start to place among first start (inr (behind, same)) = omega arith

-- a card that stays, by its place among those that stay
moved-others : (cards : List (List ℕ)) (from to place among : ℕ) (d : List ℕ) → 1 ≤ from → from ≤ length cards → 1 ≤ to → to ≤ length cards → 1 ≤ place → ((place < to) × (among ≡ place)) ⊎ ((to < place) × (among + 1 ≡ place)) → get_or (moved cards from to) (place - 1) d ≡ get_or (spliced cards from 1 []) (among - 1) d
moved-others cards from to place among d one within first last start (inl (before, same)) =
    get_or-before (spliced cards from 1 []) (only_item cards from) to 0 (place - 1) d (omega (arith, length-others cards from one within)) (omega arith) ∙ ap (λ k. get_or (spliced cards from 1 []) k d) (omega arith)
moved-others cards from to place among d one within first last start (inr (behind, same)) =
    let there = length-only_item cards from one within in
    get_or-after (spliced cards from 1 []) (only_item cards from) to 0 (place - 1) (among - 1) d (omega (arith, length-others cards from one within)) (omega arith) (omega arith)

-- its place before
others-before : (cards : List (List ℕ)) (from among : ℕ) (d : List ℕ) → from ≤ length cards → 1 ≤ among → among < from → get_or (spliced cards from 1 []) (among - 1) d ≡ get_or cards (among - 1) d
others-before cards from among d within start before = get_or-before cards [] from 1 (among - 1) d (omega arith) (omega arith)

-- after the card that is taken out the others stand one place earlier
others-after : (cards : List (List ℕ)) (from among : ℕ) (d : List ℕ) → 1 ≤ from → from ≤ length cards → from ≤ among → get_or (spliced cards from 1 []) (among - 1) d ≡ get_or cards among d
others-after cards from among d one within behind = get_or-after cards [] from 1 (among - 1) among d (omega arith) (omega arith) (omega arith)

-- a card that stays and stood before the moved one
pub moved-others_before : (cards : List (List ℕ)) (from to place among : ℕ) (card : List ℕ) → 1 ≤ from → from ≤ length cards → 1 ≤ to → to ≤ length cards → 1 ≤ place → place ≤ length cards → ((place < to) × (among ≡ place)) ⊎ ((to < place) × (among + 1 ≡ place)) → among < from → card ≡ get_or cards (among - 1) card → slice_get (moved cards from to) (place - 1) ≡ Some card
moved-others_before cards from to place among card one within first last start end where_ before is =
    some_card (moved cards from to) (place - 1) card (omega (arith, length-moved cards from to one within first last))
    (is ∙ sym (moved-others cards from to place among card one within first last start where_ ∙ others-before cards from among card within (among_start to place among first start where_) before))

-- a card that stays and stood after the moved one
pub moved-others_after : (cards : List (List ℕ)) (from to place among : ℕ) (card : List ℕ) → 1 ≤ from → from ≤ length cards → 1 ≤ to → to ≤ length cards → 1 ≤ place → place ≤ length cards → ((place < to) × (among ≡ place)) ⊎ ((to < place) × (among + 1 ≡ place)) → from ≤ among → card ≡ get_or cards among card → slice_get (moved cards from to) (place - 1) ≡ Some card
moved-others_after cards from to place among card one within first last start end where_ behind is =
    some_card (moved cards from to) (place - 1) card (omega (arith, length-moved cards from to one within first last))
    (is ∙ sym (moved-others cards from to place among card one within first last start where_ ∙ others-after cards from among card one within behind))

pub ruleset change_lengths = (length-spliced, length-moved)

pub ruleset change_steps = (spliced-before, spliced-among, spliced-after, moved-there, moved-others_before, moved-others_after)
