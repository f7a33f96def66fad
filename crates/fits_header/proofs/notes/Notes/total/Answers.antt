use Rattle.std.proofs.Common.{arith}
use Rattle.fits_header.proofs.TotalLemmas.{total_in-few}
use Rattle.fits_header.proofs.notes.Notes.total.Goals as goal

pub overflow_cast-result : goal.overflow_cast-result
overflow_cast-result c = omega (arith, c.self.invariant.total, total_in-few c.self.inside.notes.items c.self.invariant.each, rw (← c.self.view_is) at c.requires)

pub returns-clause-within : goal.returns-clause-within
returns-clause-within c = rw (← c.self.view_is) (omega (arith, c.self.invariant.total, total_in-few c.self.inside.notes.items c.self.invariant.each))
