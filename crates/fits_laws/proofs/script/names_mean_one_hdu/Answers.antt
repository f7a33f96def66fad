use Rattle.fits_laws.proofs.NamingLemmas.{number_at-asked}
use Rattle.fits_laws.proofs.script.names_mean_one_hdu.Goals as goal

pub returns : goal.returns
returns c = number_at-asked
