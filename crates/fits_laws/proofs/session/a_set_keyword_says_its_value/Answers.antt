use Rattle.fits_laws.proofs.SetLemmas.{set_reads_back}
use Rattle.fits_laws.proofs.session.a_set_keyword_says_its_value.Goals as goal

pub returns : goal.returns
returns c = set_reads_back
