-- Said, so that a body that breaks it is refused at once.
use Rattle.std.proofs.Common.{rules}
use Rattle.fits_script.proofs.wording.dots_after.Goals as goal

pub returns-else-word-gt-SHOWN : goal.returns-else-word-gt-SHOWN
returns-else-word-gt-SHOWN c = search rules
