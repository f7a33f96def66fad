use Rattle.fits_making.proofs.CardLemmas.{none_moves_in}
use Rattle.fits_making.proofs.changes.move_card.Goals as goal

pub returns-clause-inner : goal.returns-clause-inner
returns-clause-inner c = none_moves_in _ _
