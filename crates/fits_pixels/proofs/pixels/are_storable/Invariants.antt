use Rattle.std.proofs.Common.{◌<◌, ℕ, get_or, pos}
use Rattle.std.specs.Prelude.{◌-ℤ◌}
use Rattle.fits_pixels.specs.Pixels.{IsStorable}
use Rattle.fits_pixels.proofs.pixels.are_storable.Given as goal

abbrev pub invariant-loop-i : goal.invariant-loop-i
invariant-loop-i l = (k : ℕ) → k < l.i → IsStorable l.width (get_or l.values k (pos 0) -ℤ l.offset)
