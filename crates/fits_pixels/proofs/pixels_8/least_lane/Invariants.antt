use Rattle.std.proofs.Common.{◌≡◌, ◌≤◌, drop, min}
use Rattle.fits_pixels.specs.Scan.{lowest}
use Rattle.fits_pixels.proofs.pixels_8.least_lane.Given as goal

abbrev pub invariant-loop-i : goal.invariant-loop-i
invariant-loop-i l = record {
  least : min l.least (lowest (drop l.i l.lanes)) ≡ lowest l.lanes;
  small : l.least ≤ 255;
}
