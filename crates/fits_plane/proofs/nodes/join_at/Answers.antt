-- Said, so that a body that breaks it is refused at once.
use Rattle.std.proofs.Common.{arith}
use Rattle.std.proofs.lemmas.Grind.{common_steps}
use Rattle.fits_plane.proofs.nodes.join_at.Goals as goal

pub returns-clause-after : goal.returns-clause-after
returns-clause-after g c = grind (arith, common_steps)
