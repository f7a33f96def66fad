-- Said, so that a body that breaks it is refused at once.
use Rattle.std.proofs.Common.{rules}
use Rattle.fits_plane.proofs.rectangle.lie_in.Goals as goal

pub returns-then-low-high : goal.returns-then-low-high
returns-then-low-high c = search rules
