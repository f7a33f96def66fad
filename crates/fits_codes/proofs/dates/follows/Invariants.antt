use Rattle.std.proofs.Common.{◌≡◌, drop}
use Rattle.fits_codes.specs.Date.{follows}
use Rattle.fits_codes.proofs.dates.follows.Given as goal

abbrev pub invariant-loop-i : goal.invariant-loop-i
invariant-loop-i l = follows (drop l.i l.layout) (drop l.i l.text) ≡ follows l.layout l.text
