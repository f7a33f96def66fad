use Rattle.fits_table.proofs.KeptLaws.{columns_stay}
use Rattle.fits_table.proofs.laws.columns_stay.Goals as goal

pub returns : goal.returns
returns c = columns_stay
