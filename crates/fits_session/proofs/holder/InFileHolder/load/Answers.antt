use Rattle.std.proofs.Common.{refl}
use Rattle.fits_session.proofs.holder.InFileHolder.load.Goals as goal

pub returns-clause-same : goal.returns-clause-same
returns-clause-same g c told all = let own = all refl in c.load.ensures.same told own.0 own.1

pub returns-clause-unchanged : goal.returns-clause-unchanged
returns-clause-unchanged g c told all = let own = all refl in c.load.ensures.steady told own.0 own.1
