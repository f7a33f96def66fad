use Rattle.fits_laws.proofs.LongSaysLemmas.{chain_length-chain, chain_length-none}
use Rattle.fits_laws.proofs.value.how_long_a_chain_is.Goals as goal

pub returns-clause-chain : goal.returns-clause-chain
returns-clause-chain c = chain_length-chain

pub returns-clause-none : goal.returns-clause-none
returns-clause-none c = chain_length-none
