use Rattle.fits_laws.proofs.ProblemLemmas.{all_problems}
use Rattle.fits_laws.proofs.session.the_report_is_all_problems.Goals as goal

pub returns : goal.returns
returns c = all_problems
