use Rattle.fits_sum.proofs.SumLemmas.{complements_make_all_ones}
use Rattle.fits_sum.proofs.laws.complements_make_all_ones.Goals as goal

pub returns : goal.returns
returns c = complements_make_all_ones
