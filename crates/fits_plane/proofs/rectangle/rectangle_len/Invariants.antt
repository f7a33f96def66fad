use Rattle.std.proofs.Common.{◌≡◌, ◌*◌, drop}
use Rattle.fits_plane.specs.Rectangle.{IsRectangle, rectangle_size}
use Rattle.fits_plane.proofs.rectangle.rectangle_len.Given as goal

abbrev pub invariant-loop-i : goal.invariant-loop-i
invariant-loop-i l = record {
  rectangle : IsRectangle (drop l.i l.axes) (drop l.i l.lo) (drop l.i l.hi);
  whole : l.size * rectangle_size (drop l.i l.lo) (drop l.i l.hi) ≡ rectangle_size l.lo l.hi;
}
