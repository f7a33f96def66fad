use Rattle.fits_header.proofs.NumberLemmas.{earlier}
use Rattle.fits_laws.proofs.header.numbers_keep_the_order.Goals as goal

pub returns : goal.returns
returns c = earlier
