use Rattle.std.proofs.Common.{◌≡◌, ◌≤◌, ◌<◌, ◌*◌, ◌+◌, drop}
use Rattle.fits_plane.specs.Rectangle.{IsRectangle, rectangle_size, product, place}
use Rattle.fits_plane.proofs.rectangle.place_of.Given as goal

abbrev pub invariant-loop-i : goal.invariant-loop-i
invariant-loop-i l = record {
  stride_some : 1 ≤ l.stride;
  rect : IsRectangle (drop l.i l.axes) (drop l.i l.lo) (drop l.i l.hi);
  within : l.left < rectangle_size (drop l.i l.lo) (drop l.i l.hi);
  span : l.stride * product (drop l.i l.axes) ≡ product l.axes;
  found : l.start + l.stride * place (drop l.i l.axes) (drop l.i l.lo) (drop l.i l.hi) l.left ≡ place l.axes l.lo l.hi l.number;
}
