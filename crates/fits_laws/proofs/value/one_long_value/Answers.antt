use Rattle.fits_laws.proofs.LongStringLemmas.{one_long_value}
use Rattle.fits_laws.proofs.value.one_long_value.Goals as goal

pub returns : goal.returns
returns c = one_long_value
