-- Said, so that a body that breaks it is refused at once.
use Rattle.std.proofs.Common.{rules}
use Rattle.fits_header.proofs.leads.stretches_moved.Goals as goal

pub returns-then-to-from : goal.returns-then-to-from
returns-then-to-from c = search rules

pub returns-else-to-from : goal.returns-else-to-from
returns-else-to-from c = search rules
