use Rattle.fits_value.proofs.NumberLemmas.{denotes_spelling}
use Rattle.fits_laws.proofs.value.numbers_are_spelled.Goals as goal

pub returns : goal.returns
returns c = denotes_spelling
