use Rattle.fits_plane.specs.Painting.{number_of, touches}
use Rattle.fits_plane.specs.Rectangle.{row_size}
use Rattle.fits_plane.proofs.WriteLemmas.{RowsWritten}
use Rattle.fits_pieces.specs.Painting.{RepaintsPieces, StaleIn}
use Rattle.fits_pieces.specs.Pieces.{bytes_with, IsCut}
use Rattle.fits_pieces.proofs.painting.paint_rows.Given as goal

abbrev pub invariant-loop-row : goal.invariant-loop-row
invariant-loop-row l = record {
  cut : IsCut l.layout l.gone.bytes l.pieces.items;
  written : RowsWritten l.layout.width l.painting.axes.now l.painting.lo.now l.painting.hi.now (row_size l.painting.lo.now l.painting.hi.now) l.row (number_of l.painting) (bytes_with l.initial.pieces.items l.gone.bytes) (bytes_with l.pieces.items l.gone.bytes);
  repainted : RepaintsPieces l.initial.pieces.items l.pieces.items;
  stale : StaleIn (touches l.painting l.layout) l.pieces.items;
}
