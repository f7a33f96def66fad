use Rattle.fits_rules.proofs.DescribesLemmas.{described, describes}
use Rattle.fits_rules.proofs.laws.shapes_are_described.Goals as goal

pub returns : goal.returns
returns c = λ primary cards shape. (described primary cards shape, describes primary cards shape)
