-- Said, so that a body that breaks it is refused at once.
use Rattle.std.proofs.Common.{rules}
use Rattle.fits_header.proofs.TotalLemmas.{header_steps}
use Rattle.fits_header.proofs.passing_total.header_total.Goals as goal

pub returns-clause-value : goal.returns-clause-value
returns-clause-value c = search (rules, header_steps)
