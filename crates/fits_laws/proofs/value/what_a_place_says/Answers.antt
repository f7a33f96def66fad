use Rattle.fits_laws.proofs.LongSaysLemmas.{place_said, place_told}
use Rattle.fits_laws.proofs.value.what_a_place_says.Goals as goal

pub returns-clause-said : goal.returns-clause-said
returns-clause-said c = λ cards place v d _. place_said cards place v d

pub returns-clause-only : goal.returns-clause-only
returns-clause-only c = λ cards place v d _. place_told cards place v d
