use Rattle.fits_hdu.proofs.ScalingLemmas.{scaling_gives_offset}
use Rattle.fits_laws.proofs.hdu.scalings_give_their_offset.Goals as goal

pub returns : goal.returns
returns c = scaling_gives_offset
