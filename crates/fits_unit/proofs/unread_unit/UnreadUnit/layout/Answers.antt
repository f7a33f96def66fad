use Rattle.std.proofs.Common.{replicate}
use Rattle.std.proofs.lemmas.List.{length-replicate}
use Rattle.fits_unit.proofs.unread_unit.UnreadUnit.layout.Goals as goal

-- as many zeros as there are bytes
pub returns-clause-fits : goal.returns-clause-fits
returns-clause-fits c = rw (← c.self.view_is) (c.self.invariant (replicate c.self.inside.len 0) (length-replicate c.self.inside.len 0))
