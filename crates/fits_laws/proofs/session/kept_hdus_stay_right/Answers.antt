use Rattle.fits_laws.proofs.RightLemmas.{stay_right}
use Rattle.fits_laws.proofs.session.kept_hdus_stay_right.Goals as goal

pub returns : goal.returns
returns c = stay_right
