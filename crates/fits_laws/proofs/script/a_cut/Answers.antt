use Rattle.fits_cli.proofs.LinesLemmas.{a_cut}
use Rattle.fits_laws.proofs.script.a_cut.Goals as goal

pub returns : goal.returns
returns c text = let cut = a_cut text in (cut.lines, cut.last, cut.cut)
