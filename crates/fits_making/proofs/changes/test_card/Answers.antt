-- Said, so that a body that breaks it is refused at once.
use Rattle.std.proofs.Common.{rules}
use Rattle.fits_making.proofs.CardLemmas.{card_steps}
use Rattle.fits_making.proofs.changes.test_card.Goals as goal

pub returns-then-not-is_text-clause-err : goal.returns-then-not-is_text-clause-err
returns-then-not-is_text-clause-err c = search (rules, card_steps)
