use Rattle.std.proofs.Common.{◌≡◌, ◌≤◌, ◌*◌, ◌+◌, drop}
use Rattle.fits_sum.specs.Words.{word_total}
use Rattle.fits_sum.proofs.words.columns_total.Given as goal

abbrev pub invariant-loop-i : goal.invariant-loop-i
invariant-loop-i l = record {
  sum : l.total + word_total (drop (4 * l.i) l.columns) ≡ word_total l.columns;
  low : l.total ≤ 1103823372288 * l.i;
}
