-- Said, so that a body that breaks it is refused at once.
use Rattle.std.proofs.Common.{rules}
use Rattle.fits_rules.proofs.SizeLemmas.{times_steps}
use Rattle.fits_rules.proofs.size.times.Goals as goal

pub returns-in-None : goal.returns-in-None
returns-in-None c = search (rules, times_steps)
