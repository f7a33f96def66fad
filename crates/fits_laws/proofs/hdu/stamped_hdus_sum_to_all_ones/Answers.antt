use Rattle.fits_hdu.proofs.RightLemmas.{stamped_sum}
use Rattle.fits_laws.proofs.hdu.stamped_hdus_sum_to_all_ones.Goals as goal

pub returns : goal.returns
returns c = stamped_sum
