use Rattle.fits_header.proofs.LeadLemmas.{names_from, sorted-drop}
use Rattle.fits_header.proofs.lookups.rest_from.Goals as goal

pub returns-clause-sorted : goal.returns-clause-sorted
returns-clause-sorted c = rw c.split_at.ensures.back (sorted-drop c.place_for.result c.args.entries.now c.requires)

pub returns-clause-from : goal.returns-clause-from
returns-clause-from c = rw (c.split_at.ensures.back, c.place_for.ensures.from) (names_from c.args.name c.args.place c.args.entries.now)
