use Rattle.fits_stream.proofs.StoredLemmas.{came_placed, came_streamed}
use Rattle.fits_stream.proofs.file_source.PlacedFileGiver.give.Goals as goal

pub returns-in_default-clause-ok : goal.returns-in_default-clause-ok
returns-in_default-clause-ok g c = came_streamed _ _ _ _ _ _ _ _ c.in_default.is c.in_ok-n.ensures.bytes.0 c.give.ensures.adds

pub returns-clause-ok : goal.returns-clause-ok
returns-clause-ok g c = came_placed _ _ _ c.in-Some.place _ _ _ _ _ c.in-Some.is c.in-Some-checked_add.ensures.1 c.in_ok-n-2.ensures.bytes.0 c.give-2.ensures.adds
