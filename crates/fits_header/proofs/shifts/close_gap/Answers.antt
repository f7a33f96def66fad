-- Said, so that a body that breaks it is refused at once.
use Rattle.std.proofs.Common.{rules}
use Rattle.fits_header.proofs.shifts.close_gap.Goals as goal

pub returns-in-0 : goal.returns-in-0
returns-in-0 c = search rules
