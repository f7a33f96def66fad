use Rattle.fits_extended.proofs.SayingLemmas.{settled_value}
use Rattle.fits_extended.proofs.saying.said_of.Goals as goal

pub returns-clause-ok : goal.returns-clause-ok
returns-clause-ok g c = rw c.settled.ensures (settled_value c.value.result _ c.value.ensures.ok c.value.ensures.err)
