use Rattle.fits_laws.proofs.PatchLemmas.{patch_runs}
use Rattle.fits_laws.proofs.script.a_patch_is_a_run_of_edit.Goals as goal

pub returns : goal.returns
returns c = patch_runs
