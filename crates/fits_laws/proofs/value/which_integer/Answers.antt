use Rattle.fits_value.proofs.IntegerLemmas.{integer_said, integer_told}
use Rattle.fits_laws.proofs.value.which_integer.Goals as goal

pub returns-clause-said : goal.returns-clause-said
returns-clause-said c = integer_said

pub returns-clause-only : goal.returns-clause-only
returns-clause-only c = integer_told
