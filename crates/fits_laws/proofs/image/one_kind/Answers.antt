use Rattle.fits_laws.proofs.KindLemmas.{one_kind}
use Rattle.fits_laws.proofs.image.one_kind.Goals as goal

pub returns : goal.returns
returns c = one_kind
