use Rattle.fits_plane.specs.Painting.{number_of}
use Rattle.fits_plane.specs.Rectangle.{row_size}
use Rattle.fits_plane.proofs.WriteLemmas.{RowsWritten}
use Rattle.fits_plane.proofs.pixel_writes.paint_rows.Given as goal

abbrev pub invariant-loop-row : goal.invariant-loop-row
invariant-loop-row l = RowsWritten l.layout.width l.painting.axes.now l.painting.lo.now l.painting.hi.now (row_size l.painting.lo.now l.painting.hi.now) l.row (number_of l.painting) l.initial.bytes l.bytes
