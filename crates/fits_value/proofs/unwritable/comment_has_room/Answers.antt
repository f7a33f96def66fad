-- Said, so that a body that breaks it is refused at once.
use Rattle.std.proofs.Common.{rules}
use Rattle.fits_value.proofs.unwritable.comment_has_room.Goals as goal

pub returns : goal.returns
returns c = search rules
