use Rattle.fits_card.proofs.CutLemmas.{one_header}
use Rattle.fits_card.proofs.laws.one_header.Goals as goal

pub returns : goal.returns
returns c = one_header
