-- Said, so that a body that breaks it is refused at once.
use Rattle.std.proofs.Common.{rules}
use Rattle.fits_header.proofs.counting.count_one.Goals as goal

pub returns-clause-value : goal.returns-clause-value
returns-clause-value c = search rules
