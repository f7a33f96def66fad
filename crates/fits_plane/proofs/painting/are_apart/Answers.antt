-- Said, so that a body that breaks it is refused at once.
use Rattle.std.proofs.Common.{rules}
use Rattle.fits_plane.proofs.painting.are_apart.Goals as goal

pub returns-then-side-per : goal.returns-then-side-per
returns-then-side-per c = search rules
