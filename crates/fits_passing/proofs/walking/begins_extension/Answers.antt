-- Said, so that a body that breaks it is refused at once.
use Rattle.std.proofs.Common.{rules}
use Rattle.fits_passing.specs.File.{begins_extension}
use Rattle.fits_passing.proofs.walking.begins_extension.Goals as goal

pub returns : goal.returns
unfolding begins_extension
returns c = search rules
