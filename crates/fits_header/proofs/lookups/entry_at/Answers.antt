use Rattle.fits_header.proofs.PlaceLemmas.{entry_found, some_place}
use Rattle.fits_header.proofs.lookups.entry_at.Goals as goal

pub returns-then-entry-place : goal.returns-then-entry-place
returns-then-entry-place c cards index = entry_found c.args.entries.now cards c.args.place c.loop-entry.entry-index _ index c.loop-entry-test.true c.if-entry-place.true

pub unreachable-requires : goal.unreachable-requires
unreachable-requires c = some_place c.args.entries.now c.args.place c.loop-entry.entry-index c.requires.index c.requires.from c.requires.to c.loop-entry-test.false c.loop-entry.invariant
