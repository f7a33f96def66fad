-- Said, so that a body that breaks it is refused at once.
use Rattle.std.proofs.Common.{rules}
use Rattle.fits_hdu.proofs.planes.follow_blank.Goals as goal

pub returns-then-ne-clause-layout : goal.returns-then-ne-clause-layout
returns-then-ne-clause-layout c = search rules
