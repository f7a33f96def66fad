-- Said, so that a body that breaks it is refused at once.
use Rattle.std.proofs.Common.{rules}
use Rattle.fits_card.proofs.cut.end_place.Goals as goal

pub loop-k-preserved : goal.loop-k-preserved
loop-k-preserved c = search rules
