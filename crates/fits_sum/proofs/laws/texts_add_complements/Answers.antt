use Rattle.fits_sum.proofs.TextLemmas.{texts_add_complements, texts_add_complements_anywhere}
use Rattle.fits_sum.proofs.laws.texts_add_complements.Goals as goal

pub returns-clause-card : goal.returns-clause-card
returns-clause-card c = texts_add_complements

pub returns-clause-anywhere : goal.returns-clause-anywhere
returns-clause-anywhere c = texts_add_complements_anywhere
