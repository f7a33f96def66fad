use Rattle.std.proofs.Common.{◌≡◌, ◌↔◌, drop}
use Rattle.fits_plane.specs.Rectangle.{rectangle_size}
use Rattle.fits_c.proofs.rows.has_size.Given as goal

abbrev pub invariant-loop-i : goal.invariant-loop-i
invariant-loop-i l = (l.size ≡ rectangle_size l.lo l.hi) ↔ (l.left ≡ rectangle_size (drop l.i l.lo) (drop l.i l.hi))
