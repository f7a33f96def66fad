-- Said, so that a body that breaks it is refused at once.
use Rattle.std.proofs.Common.{rules}
use Rattle.fits_making.proofs.refusal.RefusalFromKeywordFault.from.Goals as goal

pub returns-in-NoKey : goal.returns-in-NoKey
returns-in-NoKey c = search rules
