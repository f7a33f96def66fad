use Rattle.fits_cli.proofs.FirstLemmas.{vouched_away}
use Rattle.fits_cli.proofs.runner.keep_first.Goals as goal

pub returns-then-terms-clause-absences : goal.returns-then-terms-clause-absences
returns-then-terms-clause-absences g c = rw c.keep_right.ensures.rest (vouched_away c.args.session.now.hdus)
