use Rattle.std.proofs.Common.{◌≡◌, ◌++◌, drop}
use Rattle.fits_c.specs.Rows.{row_corner, row_place}
use Rattle.fits_c.proofs.rows.corner_in_row.Given as goal

abbrev pub invariant-loop-i : goal.invariant-loop-i
invariant-loop-i l = l.made.items ++ row_place (drop l.i l.lo) (drop l.i l.hi) l.left ≡ row_corner l.corner l.lo l.hi l.row
