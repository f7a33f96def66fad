-- Things one after another, each with its number (own).
use Rattle.std.specs.Prelude.{ℕ, ◌+◌, List, [], ◌∷◌, ◌++◌}

-- what comes of each, in order, the first having this number
abbrev pub numbered : {X Y : Type 0} → (ℕ → X → List Y) → ℕ → List X → List Y
numbered each n [] = []
numbered each n (x ∷ xs) = each n x ++ numbered each (n + 1) xs
