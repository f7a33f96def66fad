use Rattle.fits_table.proofs.DimensionLaws.{dimensions}
use Rattle.fits_table.proofs.laws.dimensions_are_read_exactly.Goals as goal

pub returns : goal.returns
returns c = dimensions
