use Rattle.fits_pixels.proofs.ValueLemmas.{offset_is_exact}
use Rattle.fits_plane.proofs.laws.offsets_are_exact.Goals as goal

pub returns : goal.returns
returns c = offset_is_exact
