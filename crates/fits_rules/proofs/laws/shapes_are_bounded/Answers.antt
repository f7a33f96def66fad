use Rattle.fits_rules.proofs.LawLemmas.{shape_bounded}
use Rattle.fits_rules.proofs.laws.shapes_are_bounded.Goals as goal

pub returns : goal.returns
returns c = shape_bounded
