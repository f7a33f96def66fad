use Rattle.std.proofs.Common.{◌≡◌, ◌≤◌, ◌+◌, ◌++◌, map}
use Rattle.std.specs.Prelude.{vec_len, vec_capacity}
use Rattle.std.specs.List.{range_with_len}
use Rattle.fits_plane.specs.Rectangle.{value_at}
use Rattle.fits_pieces.proofs.reading.read_run.Given as goal

abbrev pub invariant-loop-x : goal.invariant-loop-x
invariant-loop-x l = record {
  items : l.values.items ≡ l.initial.values.items ++ map (value_at l.initial.blocks.layout.width l.initial.blocks.bytes l.offset) (range_with_len l.start l.x);
  len : vec_len l.values ≡ vec_len l.initial.values + l.x;
  room : vec_capacity l.initial.values ≤ vec_capacity l.values;
  work : l.blocks ≡ record l.initial.blocks { reads = l.initial.blocks.reads + l.x };
}
