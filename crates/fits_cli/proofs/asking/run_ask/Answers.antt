use Rattle.fits_cli.proofs.EditingLemmas.{RemarksEndAs-end}
use Rattle.fits_cli.proofs.EndingLemmas.{EndsAs-asked}
use Rattle.fits_cli.specs.Terms.{asking}
use Rattle.fits_cli.proofs.asking.run_ask.Goals as goal

pub returns-clause-ends : goal.returns-clause-ends
returns-clause-ends g c saved = rw c.end_of.ensures (EndsAs-asked c.args.manner _ _ _ _ _ _ _ _ _ saved c.run_edit_told.result (rw c.asking-terms.ensures at c.run_edit_told.ensures.ends))

pub returns-clause-told : goal.returns-clause-told
returns-clause-told g c = rw c.end_of.ensures (RemarksEndAs-end (asking c.args.manner) _ _ _ _ _ _ c.run_edit_told.result (rw c.asking-terms.ensures at c.run_edit_told.ensures.told))
