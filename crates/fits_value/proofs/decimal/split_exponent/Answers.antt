-- Said, so that a body that breaks it is refused at once.
use Rattle.std.proofs.Common.{arith}
use Rattle.std.proofs.lemmas.Grind.{common_steps}
use Rattle.fits_value.proofs.decimal.split_exponent.Goals as goal

pub returns-then-not-is_empty-clause-sign : goal.returns-then-not-is_empty-clause-sign
returns-then-not-is_empty-clause-sign c = grind (arith, common_steps)

pub returns-then-not-is_empty-clause-digits : goal.returns-then-not-is_empty-clause-digits
returns-then-not-is_empty-clause-digits c = grind (arith, common_steps)

pub returns-then-not-is_empty-clause-rest : goal.returns-then-not-is_empty-clause-rest
returns-then-not-is_empty-clause-rest c = grind (arith, common_steps)
