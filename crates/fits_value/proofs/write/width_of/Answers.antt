-- Said, so that a body that breaks it is refused at once.
use Rattle.std.proofs.Common.{rules}
use Rattle.fits_value.proofs.write.width_of.Goals as goal

pub returns-then-character-eq39-clause-value : goal.returns-then-character-eq39-clause-value
returns-then-character-eq39-clause-value c = search rules
