use Rattle.fits_laws.proofs.HduLemmas.{one_hdu}
use Rattle.fits_laws.proofs.hdu.one_hdu.Goals as goal

pub returns : goal.returns
returns c = one_hdu
