use Rattle.fits_hdu.proofs.ChangeLemmas.{hdu-changed}
use Rattle.fits_laws.proofs.hdu.a_change_leaves_an_hdu.Goals as goal

pub returns : goal.returns
returns c = hdu-changed
