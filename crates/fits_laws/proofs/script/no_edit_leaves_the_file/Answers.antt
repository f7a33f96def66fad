use Rattle.fits_cli.specs.Answer.{at_first_line}
use Rattle.fits_laws.proofs.SparedLemmas.{lines_stay}
use Rattle.fits_laws.proofs.script.no_edit_leaves_the_file.Goals as goal

pub returns : goal.returns
returns c terms file lines none = (lines_stay (at_first_line terms file) lines none).1
