use Rattle.std.proofs.Common.{ℕ, ◌+◌, ◌<◌, ◌≡◌}
use Rattle.std.specs.Prelude.{◌+ℤ◌}
use Rattle.fits_pixels.specs.Pixels.{IsStorable, pixel}
use Rattle.fits_plane.specs.ShortRows.{RowWritten}
use Rattle.fits_plane.proofs.converting.convert_each.Given as goal

abbrev pub invariant-loop-x : goal.invariant-loop-x
invariant-loop-x l = record {
  same_reference : l.pixels.bytes.ghost_name ≡ l.initial.pixels.bytes.ghost_name;
  stored : RowWritten l.width l.start l.x (λ y. pixel l.from l.initial.store.bytes (l.start + y) +ℤ l.shift) l.initial.pixels.bytes.now l.pixels.bytes.now;
  fit : (y : ℕ) → y < l.x → IsStorable l.width (pixel l.from l.initial.store.bytes (l.start + y) +ℤ l.shift);
  work : l.store ≡ record l.initial.store { reads = l.initial.store.reads + l.x };
}
