use Rattle.std.proofs.Common.{[], refl}
use Rattle.fits_header.proofs.counts.Counts.of.Goals as goal

pub returns-clause-value : goal.returns-clause-value
returns-clause-value c = c.count_more.ensures.value [] refl
