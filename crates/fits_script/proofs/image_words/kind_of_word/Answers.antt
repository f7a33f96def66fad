-- Said, so that a body that breaks it is refused at once.
use Rattle.std.proofs.Common.{rules}
use Rattle.fits_script.specs.Words.{kind_of_word}
use Rattle.fits_script.proofs.image_words.kind_of_word.Goals as goal

pub returns-then-is_word-4 : goal.returns-then-is_word-4
unfolding kind_of_word
returns-then-is_word-4 c = search rules
