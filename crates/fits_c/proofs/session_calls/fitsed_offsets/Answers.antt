use Rattle.fits_c.proofs.session_calls.fitsed_offsets.Goals as goal

pub returns : goal.returns
returns c = (_, c.take-live.ensures.given, c.offsets-number.new.self, c.of.ensures, rw c.deref_mut.ensures.value at c.offsets-number.ensures)
