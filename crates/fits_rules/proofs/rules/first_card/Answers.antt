use Rattle.std.proofs.Common.{◌≡◌, cond, codes}
use Rattle.fits_rules.specs.ShapeSteps.{cards_left}
use Rattle.fits_rules.proofs.ShapeLemmas.{first_named}
use Rattle.fits_rules.proofs.rules.first_card.Goals.{then-primary, else-primary}
use Rattle.fits_rules.proofs.rules.first_card.Goals as goal

pub returns-clause-value : goal.returns-clause-value
returns-clause-value c =
    let named : c.if-primary.name ≡ cond c.args.primary (codes "SIMPLE  ") (codes "XTENSION") = elim c.if-primary.branch [ then-primary w ↦ rw w.if-primary.true w.name-is | else-primary w ↦ rw w.if-primary.false w.name-is ] in
    first_named (cards_left c.args.cards.now.header.cards c.args.change) c.args.primary c.if-primary.name c.card_named.result named c.card_named.ensures.value
