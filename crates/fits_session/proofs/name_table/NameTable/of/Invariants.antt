use Rattle.std.proofs.Common.{◌≡◌, ◌≤◌, take, vec_capacity}
use Rattle.fits_session.proofs.name_table.NameTable.of.Given as goal

abbrev pub invariant-loop-place : goal.invariant-loop-place
invariant-loop-place l = record {
  names : l.numbers.items ≡ take l.place l.counts.numbers.entries;
  room : l.room ≤ vec_capacity l.numbers;
}
