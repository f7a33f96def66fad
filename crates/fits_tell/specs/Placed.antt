-- HDUs one after another, each with its number and where it begins (own).
use Rattle.std.specs.Prelude.{ℕ, ◌+◌, List, [], ◌∷◌, ◌++◌}

-- the line of each, in order, the first having this number and beginning here: what a line is, and how many bytes an HDU has
abbrev pub placed_lines : {K : Type 0} → (ℕ → ℕ → K → List ℕ) → (K → ℕ) → ℕ → ℕ → List K → List ℕ
placed_lines line len number start [] = []
placed_lines line len number start (k ∷ ks) = line number start k ++ placed_lines line len (number + 1) (start + len k) ks

-- how many bytes they have
abbrev pub placed_len : {K : Type 0} → (K → ℕ) → List K → ℕ
placed_len len [] = 0
placed_len len (k ∷ ks) = len k + placed_len len ks
