use Rattle.std.proofs.Common.{◌≡◌, take}
use Rattle.fits_tell.specs.Summing.{wrong_lines}
use Rattle.fits_tell.proofs.summing.wrong_lines.Given as goal

abbrev pub invariant-loop-i : goal.invariant-loop-i
invariant-loop-i l = l.text.items ≡ wrong_lines (take l.i l.sums)
