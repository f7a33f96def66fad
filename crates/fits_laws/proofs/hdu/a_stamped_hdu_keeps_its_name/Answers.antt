use Rattle.fits_hdu.proofs.StampedNameLemmas.{stamping_keeps_names}
use Rattle.fits_laws.proofs.hdu.a_stamped_hdu_keeps_its_name.Goals as goal

pub returns : goal.returns
returns c = stamping_keeps_names
