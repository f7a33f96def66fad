use Rattle.fits_header.proofs.LeadLemmas.{place-stop}
use Rattle.fits_header.proofs.lookups.positions_in.Goals as goal

pub returns-then-entry-name-clause-places : goal.returns-then-entry-name-clause-places
returns-then-entry-name-clause-places c = place-stop _ c.loop-entry.entry-index _ _ _ _ c.requires.sorted c.requires.from c.loop-entry-test.true c.if-entry-name.true c.loop-entry.invariant
