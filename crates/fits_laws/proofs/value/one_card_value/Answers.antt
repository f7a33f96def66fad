use Rattle.fits_laws.proofs.OneValueLemmas.{one_card_value}
use Rattle.fits_laws.proofs.value.one_card_value.Goals as goal

pub returns : goal.returns
returns c = one_card_value
