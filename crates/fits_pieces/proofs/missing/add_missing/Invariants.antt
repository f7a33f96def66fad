use Rattle.std.proofs.Common.{max, ◌≡◌, ◌≤◌, ◌-◌, ◌++◌, false, get_or}
use Rattle.std.specs.Prelude.{filter, is_some, map, not}
use Rattle.std.specs.List.{range_with_len}
use Rattle.fits_pieces.proofs.missing.add_missing.Given as goal

abbrev pub invariant-loop-j : goal.invariant-loop-j
invariant-loop-j l = record {
  found : l.found.items ≡ l.initial.found.items ++ filter (λ i. not (get_or (map is_some l.pieces.items) i false)) (range_with_len l.from (l.j - l.from));
  low : l.from ≤ l.j;
  limit : l.j ≤ max l.from l.to;
}
