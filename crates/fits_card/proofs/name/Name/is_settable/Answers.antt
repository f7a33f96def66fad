-- Said, so that a body that breaks it is refused at once.
use Rattle.std.proofs.Common.{rules}
use Rattle.fits_card.specs.Name.{is_settable}
use Rattle.fits_card.proofs.name.Name.is_settable.Goals as goal

pub returns-then-is_spelled : goal.returns-then-is_spelled
unfolding is_settable
returns-then-is_spelled c = search rules
