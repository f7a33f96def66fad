use Rattle.fits_hdu.proofs.ScalingLemmas.{scaling_keeps_shapes}
use Rattle.fits_laws.proofs.hdu.scalings_keep_shapes.Goals as goal

pub returns : goal.returns
returns c = scaling_keeps_shapes
