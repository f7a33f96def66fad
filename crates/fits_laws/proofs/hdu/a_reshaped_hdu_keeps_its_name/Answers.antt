use Rattle.fits_hdu.proofs.ReshapedNameLemmas.{reshaping_keeps_names}
use Rattle.fits_laws.proofs.hdu.a_reshaped_hdu_keeps_its_name.Goals as goal

pub returns : goal.returns
returns c = reshaping_keeps_names
