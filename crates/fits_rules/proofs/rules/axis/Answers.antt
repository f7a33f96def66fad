use Rattle.fits_rules.specs.ShapeSteps.{cards_left}
use Rattle.fits_rules.proofs.ShapeLemmas.{axis_there}
use Rattle.fits_rules.proofs.rules.axis.Goals as goal

pub returns-in-Some-clause-value : goal.returns-in-Some-clause-value
returns-in-Some-clause-value c =
    axis_there (cards_left c.args.cards.now.header.cards c.args.change) c.args.n c.in-Some.card c.number_up_to.result (rw c.axis_name.ensures at c.in-Some.ensures.value) c.number_up_to.ensures.value
