-- Said, so that a body that breaks it is refused at once.
use Rattle.std.proofs.Common.{rules}
use Rattle.fits_session.proofs.session.opening.test_start.Goals as goal

pub returns-then-not-starts_with-clause-err : goal.returns-then-not-starts_with-clause-err
returns-then-not-starts_with-clause-err c = search rules

pub returns-then-not-starts_with-clause-too_large : goal.returns-then-not-starts_with-clause-too_large
returns-then-not-starts_with-clause-too_large c = search rules
