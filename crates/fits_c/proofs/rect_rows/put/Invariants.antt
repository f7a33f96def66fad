use Rattle.std.proofs.Common.{◌≡◌, take, map}
use Rattle.fits_c.proofs.rect_rows.put.Given as goal

abbrev pub invariant-loop-i : goal.invariant-loop-i
invariant-loop-i g l = map g.N.Number.value (take l.i l.room) ≡ take l.i l.values
