use Rattle.fits_header.proofs.HeaderLemmas.{range_of-splice, range_of-move}
use Rattle.fits_header.proofs.leads.lead_after.Goals as goal

pub lead_spliced-requires-clause-from : goal.lead_spliced-requires-clause-from
lead_spliced-requires-clause-from c = (range_of-splice c.args.cards.now.header.cards c.args.change.now _ _ _ c.in-Splice.is c.requires.in_range).0

pub lead_moved-requires-clause-from_first : goal.lead_moved-requires-clause-from_first
lead_moved-requires-clause-from_first c = (range_of-move c.args.cards.now.header.cards c.args.change.now _ _ c.in-Move.is c.requires.in_range).0

pub lead_moved-requires-clause-to_first : goal.lead_moved-requires-clause-to_first
lead_moved-requires-clause-to_first c = (range_of-move c.args.cards.now.header.cards c.args.change.now _ _ c.in-Move.is c.requires.in_range).2
