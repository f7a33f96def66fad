-- Said, so that a body that breaks it is refused at once.
use Rattle.std.proofs.Common.{rules}
use Rattle.fits_cli.specs.Answer.{outcome_of, OutcomeNeedsMemory}
use Rattle.fits_cli.proofs.places_line.positions.Goals as goal

pub returns-in_default-clause-ok : goal.returns-in_default-clause-ok
unfolding outcome_of OutcomeNeedsMemory
returns-in_default-clause-ok g c = search rules
