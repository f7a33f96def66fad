use Rattle.fits_sum.proofs.WordLemmas.{totals_are_bounded}
use Rattle.fits_sum.proofs.laws.totals_are_bounded.Goals as goal

pub returns : goal.returns
returns c = totals_are_bounded
