-- Said, so that a body that breaks it is refused at once.
use Rattle.std.proofs.Common.{rules}
use Rattle.fits_rules.proofs.ShapeLemmas.{name_steps}
use Rattle.fits_rules.proofs.axis_names.axis_name.Goals as goal

pub returns-after-n-lt100 : goal.returns-after-n-lt100
returns-after-n-lt100 c = search (rules, name_steps)
