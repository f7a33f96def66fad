-- Said, so that a body that breaks it is refused at once.
use Rattle.std.proofs.Common.{rules}
use Rattle.fits_passing.proofs.called.names_something.Goals as goal

pub returns-then-ne : goal.returns-then-ne
returns-then-ne c = search rules
