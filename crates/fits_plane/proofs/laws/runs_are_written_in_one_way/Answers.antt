use Rattle.fits_plane.proofs.ConvertLemmas.{written_is_run}
use Rattle.fits_plane.proofs.laws.runs_are_written_in_one_way.Goals as goal

pub returns : goal.returns
returns c = written_is_run
