-- Said, so that a body that breaks it is refused at once.
use Rattle.std.proofs.Common.{rules}
use Rattle.fits_sum.specs.ChecksumText.{characters_of}
use Rattle.fits_sum.proofs.checksum_text.characters_of.Goals as goal

pub returns : goal.returns
unfolding characters_of
returns c = search rules
