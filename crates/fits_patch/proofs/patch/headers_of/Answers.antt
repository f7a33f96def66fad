use Rattle.fits_passing.specs.Headers.{read_cards}
use Rattle.fits_patch.proofs.patch.headers_of.Goals as goal

-- the second file doesn't open
pub returns-in-Some-clause-err : goal.returns-in-Some-clause-err
returns-in-Some-clause-err g c = (read_cards c.in-Ok.headers.headers.items, rw c.in-Some.is at c.in-Ok.ensures.ok)

pub returns-in-None-clause-ok : goal.returns-in-None-clause-ok
returns-in-None-clause-ok g c = record { shown = rw c.in-None.is at c.in-Ok.ensures.ok; read = c.in-Ok.ensures.quiet }
