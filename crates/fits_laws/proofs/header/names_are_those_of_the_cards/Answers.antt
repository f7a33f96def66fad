use Rattle.fits_laws.proofs.NameLemmas.{names_are_theirs}
use Rattle.fits_laws.proofs.header.names_are_those_of_the_cards.Goals as goal

pub returns : goal.returns
returns c = names_are_theirs
