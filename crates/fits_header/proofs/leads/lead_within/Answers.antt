use Rattle.fits_header.proofs.TurnLemmas.{within_from, within_to}
use Rattle.fits_header.proofs.leads.lead_within.Goals as goal

pub card-requires-clause-from : goal.card-requires-clause-from
card-requires-clause-from c = let cards = c.args.cards.now.header.cards in within_from cards c.args.name.now c.args.stretch.from c.args.stretch.to _ (c.in-Some.ensures cards c.requires.index)

pub card-requires-clause-to : goal.card-requires-clause-to
card-requires-clause-to c = let cards = c.args.cards.now.header.cards in within_to cards c.args.name.now c.args.stretch.from c.args.stretch.to _ (c.in-Some.ensures cards c.requires.index)
