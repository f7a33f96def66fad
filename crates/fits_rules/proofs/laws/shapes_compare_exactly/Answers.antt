use Rattle.fits_rules.proofs.SameShapeLemmas.{same_shape-Decides}
use Rattle.fits_rules.proofs.laws.shapes_compare_exactly.Goals as goal

pub returns : goal.returns
returns c = same_shape-Decides
