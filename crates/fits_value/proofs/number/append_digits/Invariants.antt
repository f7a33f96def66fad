use Rattle.std.proofs.Common.{◌≡◌, ◌≤◌, take}
use Rattle.std.specs.List.{fold}
use Rattle.fits_value.specs.Number.{with_digit}
use Rattle.fits_value.proofs.number.append_digits.Given as goal

abbrev pub invariant-loop-digit : goal.invariant-loop-digit
invariant-loop-digit l = (l.number ≡ fold with_digit l.start (take l.digit-index l.digits)) × (l.number ≤ l.limit)
