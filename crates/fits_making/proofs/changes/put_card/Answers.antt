use Rattle.fits_making.proofs.CardLemmas.{one_inner}
use Rattle.fits_making.proofs.changes.put_card.Goals as goal

pub returns-clause-inner : goal.returns-clause-inner
returns-clause-inner c = one_inner c.args.place c.args.removed c.in_ok-cards.cards c.args.card.now c.in_ok-cards.ensures c.in_ok-test_card.ensures.inner
