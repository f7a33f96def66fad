-- Said, so that a body that breaks it is refused at once.
use Rattle.std.proofs.Common.{rules}
use Rattle.fits_rules.specs.Image.{array_bits}
use Rattle.fits_rules.proofs.image.array_bits.Goals as goal

pub returns : goal.returns
unfolding array_bits
returns c = search rules
