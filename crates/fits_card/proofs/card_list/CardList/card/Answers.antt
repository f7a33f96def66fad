-- Said, so that a body that breaks it is refused at once.
use Rattle.std.proofs.Common.{rules}
use Rattle.fits_card.proofs.card_list.CardList.card.Goals as goal

pub returns-clause-work : goal.returns-clause-work
returns-clause-work c = search rules
