-- A number in two parts.
use Rattle.std.proofs.Common.{◌≡◌, ◌<◌, ◌%◌, ◌-◌, ◌^◌, ℕ, ℤ, pos, negsuc, ◌+ℤ◌, ◌*ℤ◌, FitsSigned, arith, refl}
use Rattle.std.proofs.lemmas.Int.{ints}
use Rattle.std.specs.Int.{w64, w128, int_div_euclid, int_rem_euclid}

-- they make it up
pub parts : (z : ℤ) → z ≡ int_div_euclid z (pos (2 ^ 64)) *ℤ pos (2 ^ 64) +ℤ int_rem_euclid z (pos (2 ^ 64))
parts (pos n) = omega (arith, ints)
parts (negsuc n) = omega (arith, ints)

-- the high part has 64 bits
pub high_fits : (z : ℤ) → FitsSigned w128 z → FitsSigned w64 (int_div_euclid z (pos (2 ^ 64)))
high_fits (pos n) h = omega (arith, ints, h)
high_fits (negsuc n) h = omega (arith, ints, h)

-- and the low part has no sign
pub low_fits : (z : ℤ) → (n : ℕ) × (int_rem_euclid z (pos (2 ^ 64)) ≡ pos n) × (n < 2 ^ 64)
low_fits (pos n) = (n % 2 ^ 64, refl, omega arith)
low_fits (negsuc n) = (2 ^ 64 - 1 - n % 2 ^ 64, refl, omega arith)
