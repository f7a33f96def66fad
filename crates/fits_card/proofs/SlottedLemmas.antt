-- Items in the slots of an order.
use Rattle.std.proofs.Common.{◌≡◌, ℕ, ◌+◌, ◌-◌, ◌<◌, ◌≤◌, List, [], ◌∷◌, ◌++◌, length, map, take, drop, get_or, get_or-take, set, inl, inr, refl, sym, ◌∙◌, ◌≢◌, ◌⊎◌, zero, suc, eqb, ap, arith, length-take-le, length-drop}
use Rattle.std.specs.Prelude.{All}
use Rattle.std.proofs.lemmas.List.Elements.{All-take, All-drop, All-tail}
use Rattle.std.proofs.lemmas.List.{take-map, drop-map, drop_more, map-append, get_or_append_left, take_all, get_or-drop, get_or-set_same, get_or-set_other, get_or-map, get_or_default, length-map, length-set, length-append, ext_get_or}
use Rattle.std.proofs.lemmas.List.FromFn.{length-map-range_with_len, get_or-map-range_with_len}
use Rattle.std.specs.List.{range_with_len}
use Rattle.fits_card.specs.Change.{spliced, moved, only_item}
use Rattle.fits_card.proofs.SpliceLemmas.{paste-spliced, paste-more}
use Rattle.std.proofs.lemmas.Bool.{cond-true, eq-eqb, cases_lt}
use Rattle.fits_card.specs.Order.{AreSlots, items_at, times}
use Rattle.fits_card.proofs.OrderLemmas.{times_parts}

-- the items at these places, with any item where none is
abbrev found_at : {X : Type 0} → X → List X → List ℕ → List X
found_at any items slots = map (λ s. get_or items s any) slots

-- the items in slots are those at their places
told : {X : Type 0} (any : X) (items : List X) (slots : List ℕ) → All (λ s. s < length items) slots → items_at items slots ≡ found_at any items slots
told any items [] below = refl
told {X = X} any items (s ∷ slots) below =
    let first : s < length items = below 0 0 (omega arith) in
    let one : take 1 (drop s items) ≡ get_or items s any ∷ [] = ap (take 1) (drop_more items s any first) in
    ap (λ (xs : List X). xs ++ items_at items slots) one
    ∙ ap (λ (xs : List X). get_or items s any ∷ xs) (told any items slots (All-tail (λ t. t < length items) s slots below))

-- they are all there
inside : {X : Type 0} (items : List X) (slots : List ℕ) (count : ℕ) → AreSlots slots count → count ≡ length items → All (λ s. s < length items) slots
inside items slots count each size = λ k d within. omega (arith, each.below k d within, size)

-- items that come behind all others are in none of their slots
more_items : {X : Type 0} (any : X) (items more : List X) (slots : List ℕ) → All (λ s. s < length items) slots → found_at any (items ++ more) slots ≡ found_at any items slots
more_items any items more [] below = refl
more_items any items more (s ∷ slots) below =
    let first : s < length items = below 0 0 (omega arith) in
    ap (λ x. x ∷ found_at any (items ++ more) slots) (get_or_append_left items more any s first)
    ∙ ap (λ xs. get_or items s any ∷ xs) (more_items any items more slots (All-tail (λ t. t < length items) s slots below))

-- what stands before others stays, where its slots do
found-before : {X : Type 0} (any : X) (items more : List X) (slots old : List ℕ) (n count : ℕ) → AreSlots old count → count ≡ length items → take n slots ≡ take n old
    → take n (found_at any (items ++ more) slots) ≡ take n (found_at any items old)
found-before any items more slots old n count each size same =
    let below : All (λ s. s < length items) old = λ k d within. omega (arith, each.below k d within, size) in
    take-map (λ s. get_or (items ++ more) s any) n slots
    ∙ (ap (found_at any (items ++ more)) same
    ∙ (more_items any items more (take n old) (All-take (λ s. s < length items) n old below) ∙ sym (take-map (λ s. get_or items s any) n old)))

-- and so does what follows them
found-after : {X : Type 0} (any : X) (items more : List X) (slots old : List ℕ) (n m count : ℕ) → AreSlots old count → count ≡ length items → drop n slots ≡ drop m old
    → drop n (found_at any (items ++ more) slots) ≡ drop m (found_at any items old)
found-after any items more slots old n m count each size same =
    let below : All (λ s. s < length items) old = λ k d within. omega (arith, each.below k d within, size) in
    drop-map (λ s. get_or (items ++ more) s any) n slots
    ∙ (ap (found_at any (items ++ more)) same
    ∙ (more_items any items more (drop m old) (All-drop (λ s. s < length items) m old below) ∙ sym (drop-map (λ s. get_or items s any) m old)))

-- a slot that stands somewhere is counted
found_once : (s : ℕ) (slots : List ℕ) (i : ℕ) → i < length slots → get_or slots i 0 ≡ s → 1 ≤ times s slots
found_once s [] i within same = absurd (omega arith)
found_once s (t ∷ slots) zero within same = omega (arith, cond-true {A = ℕ} (eqb s t) 1 0 (eq-eqb s t (sym same)))
found_once s (t ∷ slots) (suc i) within same = omega (arith, found_once s slots i (omega arith) same)

-- two items have two slots
apart_before : (slots : List ℕ) (i k : ℕ) → i < k → k < length slots → ((s : ℕ) → times s slots ≤ 1) → get_or slots i 0 ≢ get_or slots k 0
apart_before slots i k before within once same =
    let s = get_or slots k 0 in
    let zero_more : k + 0 ≡ k = omega arith in
    let front : get_or (take k slots) i 0 ≡ s = get_or-take k slots i 0 before ∙ same in
    let behind : get_or (drop k slots) 0 0 ≡ s = (get_or-drop k slots 0 0 ∙ ap (λ (n : ℕ). get_or slots n 0) zero_more) in
    omega (arith, once s, times_parts s k slots, found_once s (take k slots) i (omega (arith, length-take-le k slots (omega arith))) front, found_once s (drop k slots) 0 (omega (arith, length-drop k slots)) behind)

-- whichever of them comes first
apart : (slots : List ℕ) (i k : ℕ) → i < length slots → k < length slots → i ≢ k → ((s : ℕ) → times s slots ≤ 1) → get_or slots i 0 ≢ get_or slots k 0
apart slots i k within inside other once = go (cases_lt i k) where
  go : (i < k) ⊎ (k ≤ i) → get_or slots i 0 ≢ get_or slots k 0
  go (inl before) = apart_before slots i k before inside once
  go (inr behind) = λ same. apart_before slots k i (omega (arith, behind, other)) within once (sym same)

-- an item is written in its slot, and no other is
module _ {X : Type 0} (any : X) (items : List X) (slots : List ℕ) (k count : ℕ) (x : X) (each : AreSlots slots count) (size : count ≡ length items) (within : k < length slots) where
  abbrev slot : ℕ
  slot = get_or slots k 0

  abbrev before : List X
  before = found_at any items slots

  abbrev after : List X
  after = found_at any (set items slot x) slots

  slot_within : slot < length items
  slot_within = omega (arith, each.below k 0 within, size)

  here : (i : ℕ) → i ≡ k → get_or after i any ≡ get_or (set before k x) i any
  here i same =
      let inside : i < length slots = omega (arith, same) in
      get_or-map (λ s. get_or (set items slot x) s any) slots i 0 any inside
      ∙ (ap (λ (n : ℕ). get_or (set items slot x) (get_or slots n 0) any) same
      ∙ (get_or-set_same items slot x any slot_within
      ∙ sym (ap (λ (n : ℕ). get_or (set before k x) n any) same ∙ get_or-set_same before k x any (omega (arith, length-map slots (λ s. get_or items s any))))))

  elsewhere : (i : ℕ) → i < length slots → i ≢ k → get_or after i any ≡ get_or (set before k x) i any
  elsewhere i inside other =
      get_or-map (λ s. get_or (set items slot x) s any) slots i 0 any inside
      ∙ (get_or-set_other items slot (get_or slots i 0) x any (apart slots i k inside within other each.once)
      ∙ (sym (get_or-map (λ s. get_or items s any) slots i 0 any inside) ∙ sym (get_or-set_other before k i x any other)))

  pub found_written : found_at any (set items (get_or slots k 0) x) slots ≡ set (found_at any items slots) k x
  found_written =
      let size_after = length-map slots (λ s. get_or (set items slot x) s any) in
      ext_get_or any after (set before k x) (omega (arith, size_after, length-map slots (λ s. get_or items s any), length-set before k x))
      (λ i inside. cases_eq_at i (omega (arith, inside, size_after)))
    where
      cases_eq_at : (i : ℕ) → i < length slots → get_or after i any ≡ get_or (set before k x) i any
      cases_eq_at i inside = go (cases_lt i k) (cases_lt k i) where
        go : (i < k) ⊎ (k ≤ i) → (k < i) ⊎ (i ≤ k) → get_or after i any ≡ get_or (set before k x) i any
        go (inl low) _ = elsewhere i inside (λ e. omega (arith, low, e))
        go (inr _) (inl high) = elsewhere i inside (λ e. omega (arith, high, e))
        go (inr high) (inr low) = here i (omega (arith, high, low))

-- all of a list, where no more is asked for
pub all_taken : {X : Type 0} (items more : List X) (n : ℕ) → length items ≤ n → take n items ++ more ≡ items ++ more
all_taken {X = X} items more n few = ap (λ (xs : List X). xs ++ more) (take_all n items few)

-- items put in place of others, by their slots
slots_spliced : {X : Type 0} (any : X) (items : List X) (slots new : List ℕ) (place removed : ℕ) → found_at any items (spliced slots place removed new) ≡ spliced (found_at any items slots) place removed (found_at any items new)
slots_spliced {X = X} any items slots new place removed =
    let f : ℕ → X = λ s. get_or items s any in
    map-append f (take (place - 1) slots) (new ++ drop (place - 1 + removed) slots)
    ∙ (ap (λ xs. xs ++ found_at any items (new ++ drop (place - 1 + removed) slots)) (sym (take-map f (place - 1) slots))
    ∙ ap (λ xs. take (place - 1) (found_at any items slots) ++ xs) (map-append f new (drop (place - 1 + removed) slots) ∙ ap (λ xs. found_at any items new ++ xs) (sym (drop-map f (place - 1 + removed) slots))))

-- an item is moved where its slot is
found_moved : {X : Type 0} (any : X) (items : List X) (slots new : List ℕ) (from to : ℕ) → new ≡ moved slots from to → found_at any items new ≡ moved (found_at any items slots) from to
found_moved {X = X} any items slots new from to is =
    let f : ℕ → X = λ s. get_or items s any in
    ap (found_at any items) is
    ∙ (slots_spliced any items (spliced slots from 1 []) (only_item slots from) to 0
    ∙ (ap (λ xs. spliced xs to 0 (found_at any items (only_item slots from))) (slots_spliced any items slots [] from 1)
    ∙ ap (λ xs. spliced (spliced (found_at any items slots) from 1 []) to 0 xs) (sym (take-map f 1 (drop (from - 1) slots)) ∙ ap (take 1) (sym (drop-map f (from - 1) slots)))))

-- the item at an index is that in its slot
found_there : {X : Type 0} (any d : X) (items : List X) (slots : List ℕ) (k count : ℕ) → AreSlots slots count → count ≡ length items → k < length slots
    → get_or items (get_or slots k 0) d ≡ get_or (found_at any items slots) k d
found_there any d items slots k count each size within =
    let inside : get_or slots k 0 < length items = omega (arith, each.below k 0 within, size) in
    get_or_default items (get_or slots k 0) d any inside ∙ sym (get_or-map (λ s. get_or items s any) slots k 0 d within)

-- items that stand in place
found_in_place : {X : Type 0} (any : X) (items : List X) (n : ℕ) → n ≡ length items → found_at any items (range_with_len 0 n) ≡ items
found_in_place any items n size =
    ext_get_or any (found_at any items (range_with_len 0 n)) items (omega (arith, length-map-range_with_len (λ s. get_or items s any) 0 n, size))
    (λ i inside. get_or-map-range_with_len (λ s. get_or items s any) 0 n i i any (omega (arith, inside, length-map-range_with_len (λ s. get_or items s any) 0 n)) (omega arith))

-- items before a place and behind others, with new ones between
pub spliced_over : {X : Type 0} (old mid new now : List X) (place removed n : ℕ) → take (place - 1) mid ≡ take (place - 1) old → drop (place - 1 + n) mid ≡ drop (place - 1 + removed) old → now ≡ spliced mid place n new
    → now ≡ spliced old place removed new
spliced_over {X = X} old mid new now place removed n front behind is =
    is ∙ (ap (λ (xs : List X). xs ++ (new ++ drop (place - 1 + n) mid)) front ∙ ap (λ (xs : List X). take (place - 1) old ++ (new ++ xs)) behind)

-- there are as many items as slots
counted : {X : Type 0} (items : List X) (slots : List ℕ) → All (λ s. s < length items) slots → length (items_at items slots) ≡ length slots
counted items [] below = refl
counted {X = X} items (s ∷ slots) below =
    let first : s < length items = below 0 0 (omega arith) in
    let one : length (take 1 (drop s items)) ≡ 1 = length-take-le 1 (drop s items) (omega (arith, length-drop s items)) in
    omega (arith, length-append (take 1 (drop s items)) (items_at items slots), one, counted items slots (All-tail (λ t. t < length items) s slots below))

module _ {X : Type 0} (items : List X) (slots : List ℕ) (count : ℕ) (each : AreSlots slots count) (size : count ≡ length items) where
  below : All (λ s. s < length items) slots
  below = inside items slots count each size

  pub items_count : length (items_at items slots) ≡ length slots
  items_count = counted items slots below

  -- the item at an index is that in its slot
  pub item_there : (k : ℕ) (d : X) → k < length slots → get_or items (get_or slots k 0) d ≡ get_or (items_at items slots) k d
  item_there k d within = found_there d d items slots k count each size within ∙ ap (λ (xs : List X). get_or xs k d) (sym (told d items slots below))

  -- it is written there
  pub written : (k : ℕ) (x : X) → k < length slots → items_at (set items (get_or slots k 0) x) slots ≡ set (items_at items slots) k x
  written k x within =
      let slot = get_or slots k 0 in
      told x (set items slot x) slots (inside (set items slot x) slots count each (size ∙ sym (length-set items slot x)))
      ∙ (found_written x items slots k count x each size within ∙ ap (λ (xs : List X). set xs k x) (sym (told x items slots below)))

  -- where others came behind them, and new slots stand before or behind theirs, they stay
  module _ (any : X) (more : List X) (now : List ℕ) (total : ℕ) (all : AreSlots now total) (many : total ≡ length (items ++ more)) where
    told_now : items_at (items ++ more) now ≡ found_at any (items ++ more) now
    told_now = told any (items ++ more) now (inside (items ++ more) now total all many)

    pub room-before : (n : ℕ) → take n now ≡ take n slots → take n (items_at (items ++ more) now) ≡ take n (items_at items slots)
    room-before n same = ap (take n) told_now ∙ (found-before any items more now slots n count each size same ∙ sym (ap (take n) (told any items slots below)))

    pub room-after : (n m : ℕ) → drop n now ≡ drop m slots → drop n (items_at (items ++ more) now) ≡ drop m (items_at items slots)
    room-after n m same = ap (drop n) told_now ∙ (found-after any items more now slots n m count each size same ∙ sym (ap (drop m) (told any items slots below)))

-- an item is moved where its slot is
pub moved_items : {X : Type 0} (items : List X) (slots now : List ℕ) (count from to : ℕ) → AreSlots slots count → count ≡ length items → AreSlots now count → 1 ≤ from → from ≤ length slots → now ≡ moved slots from to
    → items_at items now ≡ moved (items_at items slots) from to
moved_items [] slots now count from to each size all first last is = absurd (omega (arith, each.below 0 0 (omega arith), size))
moved_items {X = X} (x ∷ xs) slots now count from to each size all first last is =
    let items : List X = x ∷ xs in
    told x items now (inside items now count all size)
    ∙ (found_moved x items slots now from to is ∙ ap (λ (ys : List X). moved ys from to) (sym (told x items slots (inside items slots count each size))))

-- items that stand in place
pub in_place : {X : Type 0} (items : List X) (slots : List ℕ) (n : ℕ) → n ≡ length items → AreSlots slots n → slots ≡ range_with_len 0 n → items_at items slots ≡ items
in_place [] slots n size each is = ap (items_at []) (is ∙ ap (range_with_len 0) size)
in_place {X = X} (x ∷ xs) slots n size each is =
    let items : List X = x ∷ xs in
    told x items slots (inside items slots n each size) ∙ (ap (found_at x items) is ∙ found_in_place x items n size)

pub ruleset fill_steps = (all_taken)

pub ruleset splice_steps = (spliced_over)

pub ruleset write_steps = (paste-spliced, paste-more)
