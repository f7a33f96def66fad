-- Said, so that a body that breaks it is refused at once.
use Rattle.std.proofs.Common.{rules}
use Rattle.fits_card.specs.Card.{has_value}
use Rattle.fits_card.proofs.card.Card.has_value.Goals as goal

pub returns-then-self-eq32 : goal.returns-then-self-eq32
unfolding has_value
returns-then-self-eq32 c = search rules
