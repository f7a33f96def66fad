use Rattle.fits_hdu.proofs.NewImageLemmas.{new_is_hdu}
use Rattle.fits_laws.proofs.hdu.new_images_are_hdus.Goals as goal

pub returns : goal.returns
returns c = new_is_hdu
