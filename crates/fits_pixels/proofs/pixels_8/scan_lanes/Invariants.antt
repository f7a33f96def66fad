use Rattle.std.proofs.Common.{◌≡◌, ◌≤◌, ◌*◌, take, length, map}
use Rattle.std.specs.Simd.Lanes.{sum_l, Each1}
use Rattle.fits_pixels.specs.Scan.{lowest, highest}
use Rattle.fits_pixels.proofs.LaneLemmas.{or_top, or_none, is_hit}
use Rattle.fits_pixels.proofs.pixels_8.scan_lanes.Given as goal

abbrev pub invariant-loop-i : goal.invariant-loop-i
invariant-loop-i l = record {
  least : lowest l.least ≡ lowest (map (or_top l.blank) (take (16 * l.i) l.block));
  greatest : highest l.greatest ≡ highest (map (or_none l.blank) (take (16 * l.i) l.block));
  sum : sum_l l.sums ≡ sum_l (map (or_none l.blank) (take (16 * l.i) l.block));
  count : sum_l l.counts ≡ sum_l (map (is_hit l.blank) (take (16 * l.i) l.block));
  least_long : length l.least ≡ 16;
  greatest_long : length l.greatest ≡ 16;
  sums_long : length l.sums ≡ 16;
  counts_long : length l.counts ≡ 16;
  sums_low : Each1 (λ x. x ≤ 255 * l.i) l.sums;
  counts_low : Each1 (λ x. x ≤ 255 * l.i) l.counts;
}
