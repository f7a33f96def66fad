use Rattle.fits_laws.proofs.LongSaysLemmas.{link_found, link_told_of}
use Rattle.fits_laws.proofs.value.which_string_a_link_says.Goals as goal

pub returns-clause-said : goal.returns-clause-said
returns-clause-said c = link_found

pub returns-clause-only : goal.returns-clause-only
returns-clause-only c = link_told_of
