use Rattle.std.proofs.Common.{◌≡◌, ◌-◌, None}
use Rattle.std.specs.Prelude.{pos, ◌+ℤ◌, ◌≤ℤ◌}
use Rattle.fits_pixels.specs.Pixels.{pixels, greatest_stored, least_stored}
use Rattle.fits_pixels.specs.Scan.{negative_count}
use Rattle.fits_pixels.proofs.ApartLemmas.{Ranged}
use Rattle.fits_pixels.proofs.passes.defined.Given as goal

abbrev pub invariant-loop-i : goal.invariant-loop-i
invariant-loop-i g l = let p = g.P.SignedPixel in record {
  ranged : Ranged None (greatest_stored p.width) (least_stored p.width) (p.number l.least) (p.number l.greatest) 0 (pixels p.width l.block l.i (l.held - l.i)) (pixels p.width l.block 0 l.held);
  negatives : p.number l.negatives +ℤ pos (negative_count (pixels p.width l.block l.i (l.held - l.i))) ≡ pos (negative_count (pixels p.width l.block 0 l.held));
  some : pos 0 ≤ℤ p.number l.negatives;
  few : p.number l.negatives ≤ℤ pos l.i;
}
