use Rattle.fits_laws.proofs.LongStringLemmas.{one_chain}
use Rattle.fits_laws.proofs.value.one_chain.Goals as goal

pub returns : goal.returns
returns c = one_chain
