use Rattle.fits_header.proofs.RepeatLemmas.{AreSeen, AreMarked}
use Rattle.fits_header.proofs.repeats.mark_repeats.Given as goal

abbrev pub invariant-loop-index : goal.invariant-loop-index
invariant-loop-index l = record {
  seen : AreSeen l.entries l.index l.seen;
  marked : AreMarked l.entries l.fn.surroundings l.surroundings l.index;
}
