use Rattle.fits_hdu.proofs.ReshapeLemmas.{reshaped_is_hdu}
use Rattle.fits_laws.proofs.hdu.reshaped_hdus_are_hdus.Goals as goal

pub returns : goal.returns
returns c = reshaped_is_hdu
