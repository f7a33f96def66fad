-- Said, so that a body that breaks it is refused at once.
use Rattle.std.proofs.Common.{rules}
use Rattle.fits_passing.proofs.ReportLemmas.{trailing_steps}
use Rattle.fits_passing.proofs.reporting.push_trailing.Goals as goal

pub returns-in_ok-push : goal.returns-in_ok-push
returns-in_ok-push c = search (rules, trailing_steps)
