use Rattle.fits_laws.proofs.HduLemmas.{no_fault}
use Rattle.fits_laws.proofs.hdu.no_fault_at_an_hdu.Goals as goal

pub returns : goal.returns
returns c = no_fault
