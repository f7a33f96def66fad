use Rattle.std.proofs.Common.{◌≡◌, ◌≤◌, ◌+◌, ◌*◌, ◌++◌}
use Rattle.std.specs.Prelude.{vec_len, vec_capacity}
use Rattle.fits_plane.specs.Rectangle.{row_size}
use Rattle.fits_plane.proofs.ReadLemmas.{first_values}
use Rattle.fits_plane.proofs.pixel_reads.read_rows.Given as goal

abbrev pub invariant-loop-row : goal.invariant-loop-row
invariant-loop-row l = record {
  items : l.values.items ≡ l.initial.values.items ++ first_values l.width l.initial.store.bytes l.axes l.lo l.hi l.offset (l.row * row_size l.lo l.hi);
  len : vec_len l.values ≡ vec_len l.initial.values + l.row * row_size l.lo l.hi;
  room : vec_capacity l.initial.values ≤ vec_capacity l.values;
  work : l.store ≡ record l.initial.store { reads = l.initial.store.reads + l.row * row_size l.lo l.hi };
}
