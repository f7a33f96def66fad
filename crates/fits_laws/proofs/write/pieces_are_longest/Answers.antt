use Rattle.fits_value.proofs.PieceLemmas.{fitting_within, fitting_longest}
use Rattle.fits_laws.proofs.write.pieces_are_longest.Goals as goal

pub returns-clause-within : goal.returns-clause-within
returns-clause-within c = fitting_within

pub returns-clause-longest : goal.returns-clause-longest
returns-clause-longest c = fitting_longest
