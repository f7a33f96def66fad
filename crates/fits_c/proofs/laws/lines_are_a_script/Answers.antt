use Rattle.fits_c.proofs.LineLemmas.{a_script}
use Rattle.fits_c.proofs.laws.lines_are_a_script.Goals as goal

pub returns : goal.returns
returns c = a_script
