use Rattle.fits_sum.proofs.WordLemmas.{totals_add}
use Rattle.fits_sum.proofs.laws.totals_add.Goals as goal

pub returns : goal.returns
returns c = totals_add
