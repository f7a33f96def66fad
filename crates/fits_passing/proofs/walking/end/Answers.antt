-- Said, so that a body that breaks it is refused at once.
use Rattle.std.proofs.Common.{rules}
use Rattle.std.specs.Prelude.{false, true}
use Rattle.fits_stream.proofs.GaveLemmas.{overruns_so}
use Rattle.fits_passing.proofs.walking.end.Goals as goal

pub returns-in-Ok-true-clause-ok : goal.returns-in-Ok-true-clause-ok
returns-in-Ok-true-clause-ok g c = search rules

-- more came
pub returns-in-Ok-true-clause-err : goal.returns-in-Ok-true-clause-err
returns-in-Ok-true-clause-err g c = overruns_so _ _ _ c.in-Ok-true.field-0 true c.in-Ok-true.field-0-test c.in-Ok-true.ensures.came

-- or no more did
pub returns-in-Ok-false-clause-came : goal.returns-in-Ok-false-clause-came
returns-in-Ok-false-clause-came g c = overruns_so _ _ _ c.in-Ok-false.field-0 false c.in-Ok-false.field-0-test c.in-Ok-false.ensures.came
