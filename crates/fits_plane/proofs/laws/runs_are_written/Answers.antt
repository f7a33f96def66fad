use Rattle.fits_plane.proofs.ConvertLemmas.{run_is_written}
use Rattle.fits_plane.proofs.laws.runs_are_written.Goals as goal

pub returns : goal.returns
returns c = run_is_written
