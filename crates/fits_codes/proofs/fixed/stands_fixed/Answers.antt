-- Said, so that a body that breaks it is refused at once.
use Rattle.std.proofs.Common.{rules}
use Rattle.fits_codes.proofs.fixed.stands_fixed.Goals as goal

pub returns-then-reading-eq10 : goal.returns-then-reading-eq10
returns-then-reading-eq10 c = search rules

pub returns-in-Logical : goal.returns-in-Logical
returns-in-Logical c = search rules
