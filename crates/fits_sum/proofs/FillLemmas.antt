-- Lanes that don't differ from a byte.
use Rattle.std.proofs.Common.{◌≡◌, ℕ, Bool, true, false, not, eqb, ◌==◌, arith}
use Rattle.std.proofs.lemmas.Bool.Decides.{nat_tests}

-- the test of each lane
abbrev pub differs : ℕ → ℕ → Bool
differs a b = not (eqb a b)

-- what doesn't differ is alike
pub alike : (a b : ℕ) → differs a b ≡ false → a ≡ b
alike a b h = grind (arith, nat_tests)

-- a mask that is tested to be zero is
pub zero_from : (n : ℕ) → (n == 0) ≡ true → n ≡ 0
zero_from n h = grind (arith, nat_tests)
