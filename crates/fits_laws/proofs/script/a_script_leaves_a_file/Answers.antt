use Rattle.fits_cli.specs.Answer.{at_first_line}
use Rattle.fits_cli.proofs.ResultLemmas.{lines_file}
use Rattle.fits_laws.proofs.script.a_script_leaves_a_file.Goals as goal

pub returns : goal.returns
returns c terms file lines whole = lines_file (at_first_line terms file) lines whole
