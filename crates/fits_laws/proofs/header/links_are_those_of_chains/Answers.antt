use Rattle.fits_laws.proofs.LinkLemmas.{links-marked}
use Rattle.fits_laws.proofs.header.links_are_those_of_chains.Goals as goal

pub returns : goal.returns
returns c = links-marked
