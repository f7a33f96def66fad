use Rattle.fits_passing.proofs.HduLemmas.{primary_begins}
use Rattle.fits_laws.proofs.HduLemmas.{extension_begins}
use Rattle.fits_laws.proofs.hdu.how_hdus_begin.Goals as goal

pub returns-clause-primary : goal.returns-clause-primary
returns-clause-primary c = primary_begins

pub returns-clause-extension : goal.returns-clause-extension
returns-clause-extension c = extension_begins
