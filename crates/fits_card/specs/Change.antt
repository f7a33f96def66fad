-- Changes of a header's cards (own).
use Rattle.std.specs.Prelude.{ℕ, ◌+◌, ◌-◌, ◌≤◌, List, [], ◌++◌, length, take, drop}
use Rattle.fits_card.specs.declared.change.Change.{Change}
use Rattle.fits_card.specs.declared.change.Change.TheVariants.{Splice, Move}

-- the items with others instead of so many from a place on, counted from 1
abbrev pub spliced : {X : Type 0} → List X → ℕ → ℕ → List X → List X
spliced items place removed new = take (place - 1) items ++ (new ++ drop (place - 1 + removed) items)

-- the item at a place, as a list
abbrev pub only_item : {X : Type 0} → List X → ℕ → List X
only_item items place = take 1 (drop (place - 1) items)

-- the items with one taken out, and put where it has its place in the result
abbrev pub moved : {X : Type 0} → List X → ℕ → ℕ → List X
moved items from to = spliced (spliced items from 1 []) to 0 (only_item items from)

-- the cards after a change
unfoldable pub cards_after : List (List ℕ) → Change → List (List ℕ)
cards_after cards (Splice place removed new) = spliced cards place removed new
cards_after cards (Move from to) = moved cards from to

-- the cards that it puts in: a move puts in none
unfoldable pub new_cards : Change → List (List ℕ)
new_cards (Splice place removed new) = new
new_cards (Move from to) = []

-- its places are in range
unfoldable pub IsInRange : List (List ℕ) → Change → Type 0
IsInRange cards (Splice place removed new) = (1 ≤ place) × (place + removed ≤ length cards + 1)
IsInRange cards (Move from to) = (1 ≤ from) × (from ≤ length cards) × (1 ≤ to) × (to ≤ length cards)
