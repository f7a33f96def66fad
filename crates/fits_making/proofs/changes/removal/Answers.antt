use Rattle.fits_making.proofs.CardLemmas.{none_come}
use Rattle.fits_making.proofs.changes.removal.Goals as goal

pub returns-clause-inner : goal.returns-clause-inner
returns-clause-inner c = none_come c.args.place c.args.removed c.new-2.result cc
