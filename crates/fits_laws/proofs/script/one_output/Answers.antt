use Rattle.fits_laws.proofs.OutputLemmas.{one_output}
use Rattle.fits_laws.proofs.script.one_output.Goals as goal

pub returns : goal.returns
returns c = one_output
