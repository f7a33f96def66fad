use Rattle.std.proofs.Common.{◌≡◌, ◌<◌, ℕ}
use Rattle.fits_pixels.specs.Pixels.{pixel}
use Rattle.fits_pixels.proofs.passes.leading_blanks.Given as goal

abbrev pub invariant-loop-i : goal.invariant-loop-i
invariant-loop-i g l = record {
  blank : (k : ℕ) → k < l.i → pixel g.P.SignedPixel.width l.block k ≡ g.P.SignedPixel.number l.blank;
}
