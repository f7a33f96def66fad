use Rattle.std.proofs.Common.{◌≡◌, ◌≤◌, ◌+◌, ◌*◌, ◌++◌}
use Rattle.std.specs.Prelude.{vec_len, vec_capacity}
use Rattle.fits_plane.specs.Rectangle.{row_size}
use Rattle.fits_plane.proofs.ReadLemmas.{first_values}
use Rattle.fits_pieces.specs.Pieces.{bytes_with, ReadsPieces}
use Rattle.fits_pieces.proofs.reading.read_rows.Given as goal

abbrev pub invariant-loop-row : goal.invariant-loop-row
invariant-loop-row l = record {
  items : l.values.items ≡ l.initial.values.items ++ first_values l.layout.width (bytes_with l.initial.pieces.items l.gone.bytes) l.axes l.lo l.hi l.offset (l.row * row_size l.lo l.hi);
  len : vec_len l.values ≡ vec_len l.initial.values + l.row * row_size l.lo l.hi;
  room : vec_capacity l.initial.values ≤ vec_capacity l.values;
  work : ReadsPieces (l.row * row_size l.lo l.hi) l.initial.pieces.items l.pieces.items;
}
