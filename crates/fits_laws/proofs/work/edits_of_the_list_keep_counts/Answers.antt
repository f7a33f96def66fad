use Rattle.fits_laws.proofs.BoundLemmas.{before_gone, behind_gone}
use Rattle.fits_laws.proofs.work.edits_of_the_list_keep_counts.Goals as goal

pub returns-clause-gone_before : goal.returns-clause-gone_before
returns-clause-gone_before c = before_gone

pub returns-clause-gone_behind : goal.returns-clause-gone_behind
returns-clause-gone_behind c = behind_gone
