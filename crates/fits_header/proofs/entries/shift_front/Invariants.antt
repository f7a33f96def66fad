use Rattle.std.proofs.Common.{◌≡◌, ◌≤◌, ◌-◌, length, map, take, drop, filter}
use Rattle.fits_header.specs.Index.{shifted, stays}
use Rattle.fits_header.proofs.entries.shift_front.Given as goal

abbrev pub invariant-loop-index : goal.invariant-loop-index
invariant-loop-index l = record {
  front : take l.index l.entries ≡ map (shifted l.place l.removed l.coming) (filter (stays l.place l.removed) (take l.index l.fn.entries));
  rest : drop l.index l.entries ≡ drop l.index l.fn.entries;
  within : l.index ≤ length l.entries;
  len : length l.entries ≡ length l.fn.entries;
}

abbrev pub decreases-loop-index : goal.decreases-loop-index
decreases-loop-index l = length l.entries - l.index
