-- Said, so that a body that breaks it is refused at once.
use Rattle.std.proofs.Common.{arith}
use Rattle.std.proofs.lemmas.Grind.{common_steps}
use Rattle.fits_image.proofs.ImageHeaderLemmas.{card_steps}
use Rattle.fits_image.proofs.image_cards.push_offset.Goals as goal

pub returns-in_ok-push_number-in-I8 : goal.returns-in_ok-push_number-in-I8
returns-in_ok-push_number-in-I8 c = grind (arith, common_steps, card_steps)
