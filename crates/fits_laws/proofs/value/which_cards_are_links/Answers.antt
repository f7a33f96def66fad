use Rattle.fits_laws.proofs.LongSaysLemmas.{link_in_chain, chain_of_link}
use Rattle.fits_laws.proofs.value.which_cards_are_links.Goals as goal

pub returns-clause-said : goal.returns-clause-said
returns-clause-said c = link_in_chain

pub returns-clause-only : goal.returns-clause-only
returns-clause-only c = chain_of_link
