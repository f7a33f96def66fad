use Rattle.fits_laws.proofs.HduLemmas.{one_fault}
use Rattle.fits_laws.proofs.hdu.one_hdu_fault.Goals as goal

pub returns : goal.returns
returns c = one_fault
