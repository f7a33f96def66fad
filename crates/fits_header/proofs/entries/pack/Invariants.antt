use Rattle.std.proofs.Common.{◌≡◌, ◌≤◌, length, map, take, drop, filter}
use Rattle.fits_header.specs.Index.{shifted, stays}
use Rattle.fits_header.proofs.entries.pack.Given as goal

abbrev pub invariant-loop-index : goal.invariant-loop-index
invariant-loop-index l = record {
  kept : take l.kept l.entries ≡ map (shifted l.place l.removed l.coming) (filter (stays l.place l.removed) (take l.index l.fn.entries));
  rest : drop l.index l.entries ≡ drop l.index l.fn.entries;
  within : l.kept ≤ l.index;
  len : length l.entries ≡ length l.fn.entries;
}
