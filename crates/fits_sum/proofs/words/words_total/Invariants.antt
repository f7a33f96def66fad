use Rattle.std.proofs.Common.{◌≡◌, ◌≤◌, ◌*◌, ◌+◌, drop}
use Rattle.fits_sum.specs.Words.{word_total}
use Rattle.fits_sum.proofs.words.words_total.Given as goal

abbrev pub invariant-loop-i : goal.invariant-loop-i
invariant-loop-i l = record {
  sum : l.total + word_total (drop (4 * l.i) l.bytes) ≡ word_total l.bytes;
  low : l.total ≤ 4294967295 * l.i;
}
