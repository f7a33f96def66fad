use Rattle.fits_laws.proofs.HduLemmas.{hdu_or_fault}
use Rattle.fits_laws.proofs.hdu.an_hdu_or_a_fault.Goals as goal

pub returns : goal.returns
returns c = hdu_or_fault
