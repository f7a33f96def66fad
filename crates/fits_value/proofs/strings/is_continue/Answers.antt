-- Said, so that a body that breaks it is refused at once.
use Rattle.std.proofs.Common.{arith}
use Rattle.std.proofs.lemmas.Grind.{common_steps}
use Rattle.fits_value.specs.Says.{is_continue}
use Rattle.fits_value.proofs.strings.is_continue.Goals as goal

pub returns-then-card-eq32 : goal.returns-then-card-eq32
unfolding is_continue
returns-then-card-eq32 c = grind (arith, common_steps)
