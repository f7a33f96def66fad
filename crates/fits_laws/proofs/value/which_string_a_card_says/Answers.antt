use Rattle.fits_laws.proofs.LongSaysLemmas.{string_found, string_told_of}
use Rattle.fits_laws.proofs.value.which_string_a_card_says.Goals as goal

pub returns-clause-said : goal.returns-clause-said
returns-clause-said c = string_found

pub returns-clause-only : goal.returns-clause-only
returns-clause-only c = string_told_of
