-- Said, so that a body that breaks it is refused at once.
use Rattle.std.proofs.Common.{rules}
use Rattle.fits_plane.proofs.exchange.knows_least.Goals as goal

pub returns-then-least-went : goal.returns-then-least-went
returns-then-least-went c = search rules
