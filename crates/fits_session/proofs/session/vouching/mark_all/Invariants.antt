use Rattle.std.proofs.Common.{◌≡◌, ◌++◌, drop, map, take}
use Rattle.fits_making.specs.Keeping.{vouched_one}
use Rattle.fits_session.proofs.session.vouching.mark_all.Given as goal

abbrev pub invariant-loop-i : goal.invariant-loop-i
invariant-loop-i l = l.hdus.items ≡ map vouched_one (take l.i l.fn.hdus.items) ++ drop l.i l.fn.hdus.items
