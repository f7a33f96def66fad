use Rattle.fits_hdu.proofs.PixelLemmas.{painted_hdu}
use Rattle.fits_laws.proofs.hdu.painted_hdus_are_hdus.Goals as goal

pub returns : goal.returns
returns c = painted_hdu
