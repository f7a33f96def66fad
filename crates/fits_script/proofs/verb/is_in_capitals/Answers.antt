-- Said, so that a body that breaks it is refused at once.
use Rattle.std.proofs.Common.{rules}
use Rattle.fits_script.proofs.VerbLemmas.{letter_steps}
use Rattle.fits_script.proofs.verb.is_in_capitals.Goals as goal

pub returns : goal.returns
returns c = search (rules, letter_steps)
