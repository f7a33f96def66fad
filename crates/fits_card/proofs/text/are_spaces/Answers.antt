-- Said, so that a body that breaks it is refused at once.
use Rattle.std.proofs.Common.{arith}
use Rattle.std.proofs.lemmas.Grind.{common_steps}
use Rattle.fits_card.proofs.text.are_spaces.Goals as goal

pub pieces-preserved : goal.pieces-preserved
pieces-preserved c = grind (arith, common_steps)
