use Rattle.fits_sum.proofs.TextLemmas.{stamped_sums_to_all_ones}
use Rattle.fits_sum.proofs.laws.stamped_sums_to_all_ones.Goals as goal

pub returns : goal.returns
returns c = stamped_sums_to_all_ones
