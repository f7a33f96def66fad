-- Said, so that a body that breaks it is refused at once.
use Rattle.std.proofs.Common.{rules}
use Rattle.fits_codes.proofs.alone.lacks_space.Goals as goal

pub returns-then-card-ne32 : goal.returns-then-card-ne32
returns-then-card-ne32 c = search rules
