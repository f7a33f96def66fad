-- Said, so that a body that breaks it is refused at once.
use Rattle.std.proofs.Common.{rules}
use Rattle.fits_passing.proofs.sums.sum_of_text.Goals as goal

pub returns-then-are_spaces : goal.returns-then-are_spaces
returns-then-are_spaces c = search rules
