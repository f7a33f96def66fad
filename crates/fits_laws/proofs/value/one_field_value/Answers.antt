use Rattle.fits_laws.proofs.OneValueLemmas.{one_field_value}
use Rattle.fits_laws.proofs.value.one_field_value.Goals as goal

pub returns : goal.returns
returns c = one_field_value
