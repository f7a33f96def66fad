use Rattle.fits_laws.proofs.FindingsLemmas.{one_list}
use Rattle.fits_laws.proofs.hdu.one_list_of_findings.Goals as goal

pub returns : goal.returns
returns c = one_list
