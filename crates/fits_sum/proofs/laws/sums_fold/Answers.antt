use Rattle.fits_sum.proofs.SumLemmas.{ones_complement-add}
use Rattle.fits_sum.proofs.laws.sums_fold.Goals as goal

pub returns : goal.returns
returns c = ones_complement-add
