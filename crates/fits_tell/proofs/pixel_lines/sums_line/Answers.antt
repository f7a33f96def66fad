-- Said, so that a body that breaks it is refused at once.
use Rattle.std.proofs.Common.{arith}
use Rattle.std.proofs.lemmas.Grind.{common_steps}
use Rattle.fits_tell.proofs.pixel_lines.sums_line.Goals as goal

pub returns : goal.returns
returns c = grind (arith, common_steps)
