use Rattle.fits_laws.proofs.OutputLemmas.{an_output}
use Rattle.fits_laws.proofs.script.an_output.Goals as goal

pub returns : goal.returns
returns c = an_output
