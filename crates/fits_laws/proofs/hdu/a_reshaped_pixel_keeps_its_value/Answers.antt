use Rattle.fits_hdu.proofs.ReshapeLemmas.{reshaping_keeps_values}
use Rattle.fits_laws.proofs.hdu.a_reshaped_pixel_keeps_its_value.Goals as goal

pub returns : goal.returns
returns c = reshaping_keeps_values
