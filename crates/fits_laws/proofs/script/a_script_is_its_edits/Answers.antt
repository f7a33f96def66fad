use Rattle.fits_laws.proofs.RunLemmas.{lines_edited}
use Rattle.fits_laws.proofs.script.a_script_is_its_edits.Goals as goal

pub returns : goal.returns
returns c = lines_edited
