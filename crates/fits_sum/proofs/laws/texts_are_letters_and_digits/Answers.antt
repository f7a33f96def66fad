use Rattle.fits_sum.proofs.TextLemmas.{texts_are_letters_and_digits}
use Rattle.fits_sum.proofs.laws.texts_are_letters_and_digits.Goals as goal

pub returns : goal.returns
returns c = texts_are_letters_and_digits
