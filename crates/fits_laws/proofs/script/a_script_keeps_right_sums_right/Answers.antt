use Rattle.fits_laws.proofs.RunLemmas.{leaves_sums_right}
use Rattle.fits_laws.proofs.script.a_script_keeps_right_sums_right.Goals as goal

pub returns : goal.returns
returns c = leaves_sums_right
