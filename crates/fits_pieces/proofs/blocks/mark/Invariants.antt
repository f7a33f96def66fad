use Rattle.std.proofs.Common.{max, ◌≤◌}
use Rattle.fits_pieces.specs.Blocks.{AreMarked}
use Rattle.fits_pieces.proofs.blocks.mark.Given as goal

abbrev pub invariant-loop-k : goal.invariant-loop-k
invariant-loop-k l = record {
  marked : AreMarked l.from l.k l.initial.marks.items l.marks.items;
  low : l.from ≤ l.k;
  limit : l.k ≤ max l.from l.to;
}
