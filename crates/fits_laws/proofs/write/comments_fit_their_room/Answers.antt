use Rattle.fits_value.proofs.RoomLemmas.{comment_fits, no_comment_fits, value_fits}
use Rattle.fits_laws.proofs.write.comments_fit_their_room.Goals as goal

pub returns-clause-room : goal.returns-clause-room
returns-clause-room c = λ name comment value. comment_fits name value comment

pub returns-clause-none : goal.returns-clause-none
returns-clause-none c = λ name comment value. no_comment_fits name value comment

pub returns-clause-alone : goal.returns-clause-alone
returns-clause-alone c = value_fits
