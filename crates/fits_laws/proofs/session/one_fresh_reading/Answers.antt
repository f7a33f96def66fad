use Rattle.fits_laws.proofs.FreshLemmas.{read_once}
use Rattle.fits_laws.proofs.session.one_fresh_reading.Goals as goal

pub returns : goal.returns
returns c = read_once c.one_file.ensures
