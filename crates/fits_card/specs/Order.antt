-- Items that stand in the slots of an order (own).
use Rattle.std.specs.Prelude.{ℕ, ◌+◌, ◌≤◌, ◌<◌, ◌==◌, List, [], ◌∷◌, ◌++◌, take, drop, All, if◌then◌else◌}
use Rattle.std.specs.List.{flat_map}

-- how many times a slot stands among others
abbrev pub times : ℕ → List ℕ → ℕ
times slot [] = 0
times slot (other ∷ slots) = (if slot == other then 1 else 0) + times slot slots

-- slots below a number, none of which stands there twice
pub record AreSlots (slots : List ℕ) (count : ℕ) : Type 0 where
  pub below : All (λ slot. slot < count) slots
  pub once : (slot : ℕ) → times slot slots ≤ 1

-- what callers see of an order: the slots in use, in order, how many slots there are, and how many it has room for
pub record OrderState : Type 0 where
  pub slots : List ℕ
  pub count : ℕ
  pub room : ℕ

-- the items in these slots, in their order
abbrev pub items_at : {X : Type 0} → List X → List ℕ → List X
items_at items slots = flat_map (λ slot. take 1 (drop slot items)) slots

-- the slots from a place on, of which the first so many went behind the others
abbrev pub turned : List ℕ → ℕ → ℕ → List ℕ
turned slots from count = take from slots ++ (drop count (drop from slots) ++ take count (drop from slots))

-- what callers see of items in an order: the items, and how many more have reserved room
pub record SlottedState (X : Type 0) : Type 0 where
  pub items : List X
  pub room : ℕ
