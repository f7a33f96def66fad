use Rattle.std.proofs.Common.{◌≡◌, take}
use Rattle.fits_tell.specs.Untouched.{untouched_by}
use Rattle.fits_tell.proofs.untouched.untouched_text.Given as goal

abbrev pub invariant-loop-i : goal.invariant-loop-i
invariant-loop-i l = l.text.items ≡ untouched_by (take l.i l.sums)
