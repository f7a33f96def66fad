use Rattle.fits_value.proofs.NumberSaysLemmas.{number_says}
use Rattle.fits_laws.proofs.value.which_numbers_are_denoted.Goals as goal

pub returns : goal.returns
returns c = number_says
