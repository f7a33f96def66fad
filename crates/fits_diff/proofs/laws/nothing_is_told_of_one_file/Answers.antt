use Rattle.fits_diff.proofs.LawLemmas.{told_of_others}
use Rattle.fits_diff.proofs.laws.nothing_is_told_of_one_file.Goals as goal

pub returns : goal.returns
returns c = told_of_others
