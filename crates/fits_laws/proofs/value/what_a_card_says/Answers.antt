use Rattle.fits_value.proofs.SaysLemmas.{card_said, card_told}
use Rattle.fits_laws.proofs.value.what_a_card_says.Goals as goal

pub returns-clause-said : goal.returns-clause-said
returns-clause-said c = card_said

pub returns-clause-only : goal.returns-clause-only
returns-clause-only c = card_told
