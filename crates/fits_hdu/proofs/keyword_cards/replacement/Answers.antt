-- Said, so that a body that breaks it is refused at once.
use Rattle.std.proofs.Common.{rules}
use Rattle.fits_card.specs.Change.{new_cards}
use Rattle.fits_hdu.proofs.keyword_cards.replacement.Goals as goal

pub returns-in-Some-clause-value : goal.returns-in-Some-clause-value
unfolding new_cards
returns-in-Some-clause-value c = search rules
