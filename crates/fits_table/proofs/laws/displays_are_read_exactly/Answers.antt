use Rattle.fits_table.proofs.DisplayLaws.{displays}
use Rattle.fits_table.proofs.laws.displays_are_read_exactly.Goals as goal

pub returns : goal.returns
returns c = displays
