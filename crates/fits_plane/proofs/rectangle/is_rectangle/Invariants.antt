use Rattle.std.proofs.Common.{◌≡◌, ◌<◌, ℕ, length, get_or}
use Rattle.fits_plane.proofs.CornerLemmas.{LieIn}
use Rattle.fits_plane.proofs.rectangle.is_rectangle.Given as goal

abbrev pub invariant-loop-i : goal.invariant-loop-i
invariant-loop-i l = record {
  low : length l.lo ≡ length l.axes;
  high : length l.hi ≡ length l.axes;
  each : (k : ℕ) → k < l.i → LieIn (get_or l.axes k 0) (get_or l.lo k 0) (get_or l.hi k 0);
}
