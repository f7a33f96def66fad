use Rattle.std.proofs.Common.{◌≡◌, ◌≤◌, take}
use Rattle.fits_value.specs.Number.{value_of}
use Rattle.fits_passing.proofs.sums.sum_of_digits.Given as goal

abbrev pub invariant-loop-digit : goal.invariant-loop-digit
invariant-loop-digit l = (l.number ≡ value_of (take l.digit-index l.digits)) × (l.number ≤ 4294967295)
