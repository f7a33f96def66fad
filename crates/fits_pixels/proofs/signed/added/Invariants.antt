use Rattle.std.proofs.Common.{◌≡◌, ◌≤◌, ◌*◌, ◌^◌, ◌-◌}
use Rattle.std.specs.Prelude.{◌+ℤ◌, unsigned_abs}
use Rattle.fits_pixels.specs.Pixels.{pixels}
use Rattle.fits_pixels.specs.Statistics.{sum_of}
use Rattle.fits_pixels.proofs.signed.added.Given as goal

abbrev pub invariant-loop-i : goal.invariant-loop-i
invariant-loop-i l = record {
  sum : l.total +ℤ sum_of (pixels l.width l.block l.i (l.held - l.i)) ≡ sum_of (pixels l.width l.block 0 l.held);
  bound : unsigned_abs l.total ≤ 2 ^ 63 * l.i;
}
