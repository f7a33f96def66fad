use Rattle.fits_laws.proofs.PlainLemmas.{lines_plain}
use Rattle.fits_laws.proofs.script.an_extended_script_is_a_plain_one.Goals as goal

pub returns : goal.returns
returns c = lines_plain
