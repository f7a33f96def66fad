use Rattle.std.proofs.Common.{◌≡◌, ◌+◌, ◌*◌, ◌≤◌, drop}
use Rattle.std.specs.Simd.Lanes.{sum_l}
use Rattle.fits_pixels.proofs.pixels_8.lanes_sum.Given as goal

abbrev pub invariant-loop-i : goal.invariant-loop-i
invariant-loop-i l = record {
  sum : l.sum + sum_l (drop l.i l.lanes) ≡ sum_l l.lanes;
  bound : l.sum ≤ 65535 * l.i;
}
