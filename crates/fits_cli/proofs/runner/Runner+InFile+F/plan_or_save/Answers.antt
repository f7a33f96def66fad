use Rattle.fits_cli.proofs.UnderWayLemmas.{follows_more}
use Rattle.fits_cli.proofs.runner.Runner+InFile+F.plan_or_save.Goals as goal

pub returns-in_err-save-in-None-clause-follows : goal.returns-in_err-save-in-None-clause-follows
returns-in_err-save-in-None-clause-follows g c = follows_more _ _ _ c.plan.ensures.follows c.save.ensures.follows

pub returns-in_ok-save-in-None-clause-follows : goal.returns-in_ok-save-in-None-clause-follows
returns-in_ok-save-in-None-clause-follows g c = follows_more _ _ _ c.plan.ensures.follows c.save.ensures.follows
