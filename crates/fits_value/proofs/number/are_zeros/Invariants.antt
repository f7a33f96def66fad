use Rattle.std.proofs.Common.{◌≡◌, take}
use Rattle.fits_value.specs.Number.{value_of}
use Rattle.fits_value.proofs.number.are_zeros.Given as goal

abbrev pub invariant-loop-digit : goal.invariant-loop-digit
invariant-loop-digit l = value_of (take l.digit-index l.digits) ≡ 0
