use Rattle.fits_c.proofs.pixel_calls.fitsed_write_u64.Goals as goal

pub returns : goal.returns
returns c = (_, c.take-live.ensures.given, c.write-number.new.self, c.of.ensures, rw c.deref_mut.ensures.value at c.write-number.ensures)
