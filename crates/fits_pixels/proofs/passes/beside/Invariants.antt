use Rattle.std.proofs.Common.{◌≡◌, ◌≤◌, ◌<◌, ◌-◌, Some}
use Rattle.std.specs.Prelude.{pos, unsigned_abs, ◌+ℤ◌, ◌≤ℤ◌}
use Rattle.fits_pixels.specs.Pixels.{pixels, greatest_stored, least_stored}
use Rattle.fits_pixels.specs.Scan.{negative_count}
use Rattle.fits_pixels.proofs.ApartLemmas.{Ranged}
use Rattle.fits_pixels.proofs.passes.beside.Given as goal

abbrev pub invariant-loop-i : goal.invariant-loop-i
invariant-loop-i g l = let p = g.P.SignedPixel in record {
  ranged : Ranged (Some (p.number l.named)) (greatest_stored p.width) (least_stored p.width) (p.number l.least) (p.number l.greatest) (unsigned_abs (p.number l.blanks)) (pixels p.width l.block l.i (l.held - l.i)) (pixels p.width l.block 0 l.held);
  some : pos 0 ≤ℤ p.number l.blanks;
  few : p.number l.blanks ≤ℤ pos l.i;
  negatives : p.number l.negatives +ℤ pos (negative_count (pixels p.width l.block l.i (l.held - l.i))) ≡ pos (negative_count (pixels p.width l.block 0 l.held));
  some_negatives : pos 0 ≤ℤ p.number l.negatives;
  few_negatives : p.number l.negatives ≤ℤ pos l.i;
  from : l.first ≤ l.i;
  low : l.first < l.i → p.number l.least ≤ℤ p.number l.fill;
  high : l.first < l.i → p.number l.fill ≤ℤ p.number l.greatest;
}
