use Rattle.std.proofs.Common.{◌≡◌}
use Rattle.fits_plane.specs.ShortRows.{RowWritten}
use Rattle.fits_plane.proofs.pixel_writes.fill_row.Given as goal

abbrev pub invariant-loop-x : goal.invariant-loop-x
invariant-loop-x l = record {
  same : l.pixels.bytes.ghost_name ≡ l.initial.pixels.bytes.ghost_name;
  written : RowWritten l.width l.start l.x (λ y. l.stored) l.initial.pixels.bytes.now l.pixels.bytes.now;
}
