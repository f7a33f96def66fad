use Rattle.std.proofs.Common.{take}
use Rattle.fits_script.specs.Cut.{HasNo}
use Rattle.fits_script.proofs.cut.split_once.Given as goal

abbrev pub invariant-loop-i : goal.invariant-loop-i
invariant-loop-i l = HasNo l.separator (take l.i l.text)
