use Rattle.std.proofs.Common.{◌≡◌, get_or, pos}
use Rattle.std.specs.Prelude.{◌-ℤ◌}
use Rattle.fits_plane.specs.ShortRows.{RowWritten}
use Rattle.fits_plane.proofs.pixel_writes.write_row.Given as goal

abbrev pub invariant-loop-x : goal.invariant-loop-x
invariant-loop-x l = record {
  same : l.pixels.bytes.ghost_name ≡ l.initial.pixels.bytes.ghost_name;
  written : RowWritten l.width l.start l.x (λ y. get_or l.values y (pos 0) -ℤ l.offset) l.initial.pixels.bytes.now l.pixels.bytes.now;
}
