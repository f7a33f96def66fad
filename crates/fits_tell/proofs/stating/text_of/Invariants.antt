use Rattle.std.proofs.Common.{◌≡◌, take}
use Rattle.fits_tell.specs.Stating.{stat_lines}
use Rattle.fits_tell.proofs.stating.text_of.Given as goal

abbrev pub invariant-loop-i : goal.invariant-loop-i
invariant-loop-i l = l.text.items ≡ stat_lines (take l.i l.stats)
