use Rattle.fits_stream.proofs.LogLemmas.{ended_is}
use Rattle.fits_stream.proofs.came.Came.give.Goals as goal

pub returns-then-not-is_empty-clause-ends : goal.returns-then-not-is_empty-clause-ends
returns-then-not-is_empty-clause-ends c none some = ended_is _ _ c.end.ensures
