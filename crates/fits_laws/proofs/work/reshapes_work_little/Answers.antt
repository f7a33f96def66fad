use Rattle.std.proofs.Common.{arith}
use Rattle.fits_laws.proofs.BoundLemmas.{reshape_closer, reshape_works}
use Rattle.fits_laws.proofs.work.reshapes_work_little.Goals as goal

pub returns-clause-cards : goal.returns-clause-cards
returns-clause-cards c = λ primary hdu shape kind axes described. omega (arith, reshape_closer primary hdu shape kind axes described)

pub returns-clause-cards_closer : goal.returns-clause-cards_closer
returns-clause-cards_closer c = reshape_closer

pub returns-clause-pixels : goal.returns-clause-pixels
returns-clause-pixels c = reshape_works

pub returns-clause-refused : goal.returns-clause-refused
returns-clause-refused c = λ h kind axes old new why p. p.idle
