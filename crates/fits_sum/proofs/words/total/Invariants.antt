use Rattle.std.proofs.Common.{◌≡◌, ◌≤◌, ◌*◌, ◌+◌, drop, length}
use Rattle.std.specs.Simd.Lanes.{Each1}
use Rattle.fits_sum.specs.Words.{word_total}
use Rattle.fits_sum.proofs.words.total.Given as goal

abbrev pub invariant-loop-i : goal.invariant-loop-i
invariant-loop-i l = record {
  sum : word_total l.columns + word_total (drop (64 * l.i) l.block) ≡ word_total l.block;
  long : length l.columns ≡ 64;
  low : Each1 (λ x. x ≤ 255 * l.i) l.columns;
}
