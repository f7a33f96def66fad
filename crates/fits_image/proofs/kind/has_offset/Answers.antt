-- Said, so that a body that breaks it is refused at once.
use Rattle.std.proofs.Common.{rules}
use Rattle.fits_image.proofs.kind.has_offset.Goals as goal

pub returns-then-has_zero-clause-value : goal.returns-then-has_zero-clause-value
returns-then-has_zero-clause-value c = search rules
