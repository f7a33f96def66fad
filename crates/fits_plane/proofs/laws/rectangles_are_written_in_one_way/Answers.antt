use Rattle.fits_plane.proofs.RectangleLemmas.{written_is_rectangle}
use Rattle.fits_plane.proofs.laws.rectangles_are_written_in_one_way.Goals as goal

pub returns : goal.returns
returns c = written_is_rectangle
