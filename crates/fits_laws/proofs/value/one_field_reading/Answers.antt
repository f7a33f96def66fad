use Rattle.fits_laws.proofs.OneValueLemmas.{one_reading}
use Rattle.fits_laws.proofs.value.one_field_reading.Goals as goal

pub returns : goal.returns
returns c = one_reading
