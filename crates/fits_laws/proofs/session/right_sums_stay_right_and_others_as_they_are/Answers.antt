use Rattle.fits_laws.proofs.SumLemmas.{is_vouched, kept_is_the_mark, other_sums_stay, right_sums_stay}
use Rattle.fits_laws.proofs.session.right_sums_stay_right_and_others_as_they_are.Goals as goal

pub returns-clause-right : goal.returns-clause-right
returns-clause-right c = right_sums_stay

pub returns-clause-others : goal.returns-clause-others
returns-clause-others c = other_sums_stay

pub returns-clause-vouched : goal.returns-clause-vouched
returns-clause-vouched c = is_vouched

pub returns-clause-said : goal.returns-clause-said
returns-clause-said c = kept_is_the_mark
