use Rattle.fits_value.proofs.NumberLemmas.{one_denoted}
use Rattle.fits_laws.proofs.value.one_number.Goals as goal

pub returns : goal.returns
returns c = one_denoted
