use Rattle.std.proofs.Common.{ℕ, ◌+◌, ◌<◌, ◌≡◌}
use Rattle.std.specs.Prelude.{◌+ℤ◌}
use Rattle.fits_pixels.specs.Pixels.{IsStorable, pixel}
use Rattle.fits_plane.proofs.converting.converts_each.Given as goal

abbrev pub invariant-loop-x : goal.invariant-loop-x
invariant-loop-x l = record {
  fit : (y : ℕ) → y < l.x → IsStorable l.width (pixel l.from l.initial.store.bytes (l.start + y) +ℤ l.shift);
  work : l.store ≡ record l.initial.store { reads = l.initial.store.reads + l.x };
}
