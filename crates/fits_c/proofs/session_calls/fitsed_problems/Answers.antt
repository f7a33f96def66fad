use Rattle.fits_c.proofs.session_calls.fitsed_problems.Goals as goal

pub returns : goal.returns
returns c = (_, c.take-live.ensures.given, c.problems-number.new.self, c.of.ensures, rw c.deref_mut.ensures.value at c.problems-number.ensures)
