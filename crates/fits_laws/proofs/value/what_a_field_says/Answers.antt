use Rattle.fits_value.proofs.SaysLemmas.{field_said, field_told}
use Rattle.fits_laws.proofs.value.what_a_field_says.Goals as goal

pub returns-clause-said : goal.returns-clause-said
returns-clause-said c = field_said

pub returns-clause-only : goal.returns-clause-only
returns-clause-only c = field_told
