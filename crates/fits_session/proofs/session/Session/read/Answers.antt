use Rattle.fits_passing.proofs.WalkLemmas.{fresh}
use Rattle.fits_session.proofs.session.Session.read.Goals as goal

-- the fault is one of what came
pub returns-in-Err-clause-gave : goal.returns-in-Err-clause-gave
returns-in-Err-clause-gave g c = c.in-Err.ensures.gave (fresh (g.R.Source.state c.args.source.now) c.in_ok-intake.intake c.in_ok-intake.ensures)
