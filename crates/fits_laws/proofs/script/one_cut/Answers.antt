use Rattle.fits_laws.proofs.OutputLemmas.{one_cut}
use Rattle.fits_laws.proofs.script.one_cut.Goals as goal

pub returns : goal.returns
returns c = one_cut
