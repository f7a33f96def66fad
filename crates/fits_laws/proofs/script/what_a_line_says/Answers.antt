use Rattle.fits_laws.proofs.SaidLemmas.{command_of-says, Says-command_of}
use Rattle.fits_laws.proofs.script.what_a_line_says.Goals as goal

pub returns : goal.returns
returns c line command = (Says-command_of line command, command_of-says line command)
