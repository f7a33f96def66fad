use Rattle.fits_header.proofs.NumberLemmas.{one_name}
use Rattle.fits_laws.proofs.header.numbers_tell_names_apart.Goals as goal

pub returns : goal.returns
returns c = one_name
