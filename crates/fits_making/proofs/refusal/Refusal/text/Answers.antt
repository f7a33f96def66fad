-- Said, so that a body that breaks it is refused at once.
use Rattle.std.proofs.Common.{rules}
use Rattle.fits_making.proofs.refusal.Refusal.text.Goals as goal

pub returns-in-EndCard : goal.returns-in-EndCard
returns-in-EndCard c = search rules
