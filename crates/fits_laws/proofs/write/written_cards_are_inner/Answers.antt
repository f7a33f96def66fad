use Rattle.fits_value.proofs.InnerLemmas.{inner_written}
use Rattle.fits_laws.proofs.write.written_cards_are_inner.Goals as goal

pub returns : goal.returns
returns c = inner_written
