use Rattle.fits_plane.proofs.ConvertLemmas.{converting_keeps_values}
use Rattle.fits_plane.proofs.laws.converting_keeps_values.Goals as goal

pub returns : goal.returns
returns c = converting_keeps_values
