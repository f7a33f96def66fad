use Rattle.fits_diff.proofs.MatchLemmas.{alike_test, card_is}
use Rattle.fits_diff.proofs.matching.are_alike.Goals as goal

pub returns-clause-value : goal.returns-clause-value
returns-clause-value c =
    alike_test c.args.cards.now.header.cards c.args.others.now.header.cards c.args.index c.args.other_index c.card-card.result c.card-other.result c.are_same.result
    (card_is c.args.cards.now.header.cards c.args.index c.card-card.result c.requires.within c.card-card.ensures.value)
    (card_is c.args.others.now.header.cards c.args.other_index c.card-other.result c.requires.within_other c.card-other.ensures.value) c.are_same.ensures
