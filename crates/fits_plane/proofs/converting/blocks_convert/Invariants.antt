use Rattle.std.proofs.Common.{ℕ, ◌*◌, ◌<◌}
use Rattle.std.specs.Prelude.{◌+ℤ◌}
use Rattle.fits_pixels.specs.Layout.{block_pixels}
use Rattle.fits_pixels.specs.Pixels.{IsStorable, pixel}
use Rattle.fits_plane.proofs.converting.blocks_convert.Given as goal

abbrev pub invariant-loop-k : goal.invariant-loop-k
invariant-loop-k l = (x : ℕ) → x < l.k * block_pixels l.layout.width → IsStorable l.width (pixel l.layout.width l.store.bytes x +ℤ l.shift)
