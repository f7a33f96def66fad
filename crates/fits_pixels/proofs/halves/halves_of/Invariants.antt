use Rattle.std.proofs.Common.{◌≡◌, ◌≤◌, ◌*◌, ◌+◌, ◌-◌, ◌/◌, drop, length}
use Rattle.fits_sum.specs.Words.{word_total}
use Rattle.fits_pixels.specs.Scan.{unsigned_total}
use Rattle.fits_pixels.proofs.halves.halves_of.Given as goal

abbrev pub invariant-loop-i : goal.invariant-loop-i
invariant-loop-i l = record {
  words : 65536 * l.high + l.low + word_total (drop (4 * l.i) l.block) ≡ word_total l.block;
  fours : 65536 * l.high + l.low + unsigned_total 4 l.block l.i (length l.block / 4 - l.i) ≡ unsigned_total 4 l.block 0 (length l.block / 4);
  twos : l.high + l.low + unsigned_total 2 l.block (2 * l.i) (length l.block / 2 - 2 * l.i) ≡ unsigned_total 2 l.block 0 (length l.block / 2);
  high : l.high ≤ 65535 * l.i;
  low : l.low ≤ 65535 * l.i;
}
