use Rattle.fits_plane.proofs.RectangleLemmas.{rectangle_is_written}
use Rattle.fits_plane.proofs.laws.rectangles_are_written.Goals as goal

pub returns : goal.returns
returns c = rectangle_is_written
