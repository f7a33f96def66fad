use Rattle.fits_codes.proofs.DateLemmas.{follows-other}
use Rattle.fits_codes.proofs.dates.follows.Goals as goal

pub returns-then-layout-text-clause-value : goal.returns-then-layout-text-clause-value
returns-then-layout-text-clause-value c = follows-other c.args.layout.now c.args.text.now c.if-layout-text.true
