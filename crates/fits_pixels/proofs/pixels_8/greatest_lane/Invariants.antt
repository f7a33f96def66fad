use Rattle.std.proofs.Common.{◌≡◌, drop, max}
use Rattle.fits_pixels.specs.Scan.{highest}
use Rattle.fits_pixels.proofs.pixels_8.greatest_lane.Given as goal

abbrev pub invariant-loop-i : goal.invariant-loop-i
invariant-loop-i l = record {
  greatest : max l.greatest (highest (drop l.i l.lanes)) ≡ highest l.lanes;
}
