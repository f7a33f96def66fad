use Rattle.fits_value.proofs.WritableLemmas.{what_can_be_written}
use Rattle.fits_laws.proofs.write.what_can_be_written.Goals as goal

pub returns : goal.returns
returns c = what_can_be_written
