use Rattle.fits_hdu.proofs.VerdictLemmas.{stamped_right}
use Rattle.fits_laws.proofs.hdu.a_stamped_hdu_is_right.Goals as goal

pub returns : goal.returns
returns c = stamped_right
