use Rattle.fits_c.proofs.LineLemmas.{answer_is, left_is}
use Rattle.fits_c.proofs.laws.a_line_is_one_of_a_script.Goals as goal

pub returns-clause-answer : goal.returns-clause-answer
returns-clause-answer c = answer_is

pub returns-clause-left : goal.returns-clause-left
returns-clause-left c = left_is
