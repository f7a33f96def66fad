use Rattle.fits_pixels.proofs.ExactLemmas.{joined_is_exact}
use Rattle.fits_plane.proofs.laws.summaries_join_exactly.Goals as goal

pub returns : goal.returns
returns c = joined_is_exact
