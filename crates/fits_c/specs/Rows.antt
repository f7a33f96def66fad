-- The rows of a rectangle of pixels, each a rectangle (own).
use Rattle.std.specs.Prelude.{◌≤◌, ℕ, ◌+◌, ◌-◌, ◌/◌, ◌%◌, List, [], ◌∷◌}

-- the coordinates of row r between two corners, but the first
abbrev pub row_place : List ℕ → List ℕ → ℕ → List ℕ
row_place (l ∷ ls) (h ∷ hs) r = (l + r % (h + 1 - l)) ∷ row_place ls hs (r / (h + 1 - l))
row_place _ _ r = []

-- the corner of row r that has the first coordinate of this one
abbrev pub row_corner : List ℕ → List ℕ → List ℕ → ℕ → List ℕ
row_corner (c ∷ cs) (l ∷ ls) (h ∷ hs) r = c ∷ row_place ls hs r
row_corner _ _ _ r = []

-- corners of a rectangle of pixels, whatever the axes
abbrev pub AreCorners : List ℕ → List ℕ → Type 0
AreCorners [] [] = Unit {0}
AreCorners (l ∷ ls) (h ∷ hs) = (1 ≤ l) × (l ≤ h) × AreCorners ls hs
AreCorners _ _ = ⊥
