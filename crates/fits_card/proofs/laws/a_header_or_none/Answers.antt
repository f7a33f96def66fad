use Rattle.fits_card.proofs.CutLemmas.{header_or_none}
use Rattle.fits_card.proofs.laws.a_header_or_none.Goals as goal

pub returns : goal.returns
returns c = header_or_none
