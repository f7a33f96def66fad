-- Said, so that a body that breaks it is refused at once.
use Rattle.std.proofs.Common.{rules}
use Rattle.fits_passing.proofs.sums.checksum_verdict.Goals as goal

pub returns-in_default : goal.returns-in_default
returns-in_default c = search rules
