use Rattle.std.proofs.Common.{◌≡◌, ◌++◌, drop, map, take}
use Rattle.fits_session.specs.NameTable.{mended}
use Rattle.fits_session.proofs.session.naming.mend.Given as goal

abbrev pub invariant-loop-i : goal.invariant-loop-i
invariant-loop-i l = l.hdus.items ≡ map (mended l.gone) (take l.i l.fn.hdus.items) ++ drop l.i l.fn.hdus.items
