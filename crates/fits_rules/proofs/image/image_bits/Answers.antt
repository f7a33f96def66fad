-- Said, so that a body that breaks it is refused at once.
use Rattle.std.proofs.Common.{rules}
use Rattle.fits_rules.specs.Image.{image_bits}
use Rattle.fits_rules.proofs.image.image_bits.Goals as goal

pub returns : goal.returns
unfolding image_bits
returns c = search rules
