use Rattle.fits_hdu.proofs.OtherLeadLemmas.{reshaping_leaves_leads}
use Rattle.fits_laws.proofs.hdu.a_reshape_leaves_other_leads.Goals as goal

pub returns : goal.returns
returns c = reshaping_leaves_leads
