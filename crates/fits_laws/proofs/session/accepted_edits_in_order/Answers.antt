use Rattle.fits_laws.proofs.FreshLemmas.{after_all, reads_last, right_last}
use Rattle.fits_laws.proofs.session.accepted_edits_in_order.Goals as goal

pub returns-clause-file : goal.returns-clause-file
returns-clause-file c = after_all

pub returns-clause-fresh : goal.returns-clause-fresh
returns-clause-fresh c = reads_last c.an_edited_file_is_a_file.ensures

pub returns-clause-kept : goal.returns-clause-kept
returns-clause-kept c = right_last c.an_edited_file_is_a_file.ensures c.kept_hdus_stay_right.ensures
