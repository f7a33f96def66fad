use Rattle.std.proofs.Common.{◌≡◌, ◌≤◌, ◌*◌, ◌+◌, ◌-◌, ◌/◌, drop, length}
use Rattle.fits_sum.specs.Words.{word_total}
use Rattle.fits_pixels.specs.Scan.{unsigned_total}
use Rattle.fits_pixels.proofs.long_halves.long_halves_of.Given as goal

abbrev pub invariant-loop-i : goal.invariant-loop-i
invariant-loop-i l = record {
  words : l.high + l.low + word_total (drop (8 * l.i) l.block) ≡ word_total l.block;
  eights : 4294967296 * l.high + l.low + unsigned_total 8 l.block l.i (length l.block / 8 - l.i) ≡ unsigned_total 8 l.block 0 (length l.block / 8);
  high : l.high ≤ 4294967295 * l.i;
  low : l.low ≤ 4294967295 * l.i;
}
