-- Said, so that a body that breaks it is refused at once.
use Rattle.std.proofs.Common.{rules}
use Rattle.fits_value.specs.Written.{writable_value}
use Rattle.fits_value.proofs.unwritable.writable_value.Goals as goal

pub returns-in-Real : goal.returns-in-Real
unfolding writable_value
returns-in-Real c = search rules
