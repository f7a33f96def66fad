use Rattle.std.proofs.Common.{◌≡◌, ◌≤◌, ◌+◌, ◌-◌, ◌++◌, map}
use Rattle.std.specs.Prelude.{vec_len, vec_capacity}
use Rattle.std.specs.List.{range_with_len}
use Rattle.fits_plane.specs.Rectangle.{value_at}
use Rattle.fits_pieces.specs.Pieces.{bytes_with, ReadsPieces}
use Rattle.fits_pieces.proofs.reading.read_row.Given as goal

abbrev pub invariant-loop-x : goal.invariant-loop-x
invariant-loop-x l = record {
  items : l.values.items ≡ l.initial.values.items ++ map (value_at l.fn.layout.width (bytes_with l.initial.pieces.items l.gone.bytes) l.offset) (range_with_len l.start l.x);
  len : vec_len l.values ≡ vec_len l.initial.values + l.x;
  room : vec_capacity l.initial.values ≤ vec_capacity l.values;
  within : l.x ≤ l.count;
  work : ReadsPieces l.x l.initial.pieces.items l.pieces.items;
}

abbrev pub decreases-loop-x : goal.decreases-loop-x
decreases-loop-x l = l.count - l.x
