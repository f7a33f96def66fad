use Rattle.fits_rules.proofs.LeadCardLemmas.{lead_from, lead_to}
use Rattle.fits_header.proofs.header_marks.blank_said.Goals as goal

pub card-requires-clause-from : goal.card-requires-clause-from
card-requires-clause-from c = let cards = c.args.cards.now.header.cards in lead_from cards _ c.in-Some.place (c.in-Some.ensures cards c.requires.index)

pub card-requires-clause-to : goal.card-requires-clause-to
card-requires-clause-to c = let cards = c.args.cards.now.header.cards in lead_to cards _ c.in-Some.place (c.in-Some.ensures cards c.requires.index)
