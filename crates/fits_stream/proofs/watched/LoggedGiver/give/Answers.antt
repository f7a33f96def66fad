use Rattle.fits_stream.proofs.StoredLemmas.{came_read}
use Rattle.fits_stream.proofs.watched.LoggedGiver.give.Goals as goal

pub returns-clause-ok : goal.returns-clause-ok
returns-clause-ok g c = came_read _ _ _ _ _ c.in_ok-n.ensures.bytes.0 c.give.ensures.adds c.give.ensures.read
