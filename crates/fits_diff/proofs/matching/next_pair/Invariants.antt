use Rattle.std.proofs.Common.{◌≡◌}
use Rattle.fits_diff.specs.Matching.{NoneNearer}
use Rattle.fits_diff.proofs.matching.next_pair.Given as goal

abbrev pub invariant-loop-far : goal.invariant-loop-far
invariant-loop-far l = record {
  none : NoneNearer l.fn.cards.header.cards l.fn.others.header.cards l.from l.other_from l.far;
  same : l.cards.header ≡ l.fn.cards.header;
  same_others : l.others.header ≡ l.fn.others.header;
}
