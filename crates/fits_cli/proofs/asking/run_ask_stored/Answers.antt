use Rattle.fits_cli.proofs.EditingLemmas.{RemarksEndAs-end}
use Rattle.fits_cli.proofs.EndingLemmas.{EndsAs-asked}
use Rattle.fits_cli.proofs.FrameLemmas.{asks_leave}
use Rattle.fits_cli.specs.Terms.{asking}
use Rattle.fits_cli.proofs.asking.run_ask_stored.Goals as goal

pub returns-clause-ends : goal.returns-clause-ends
returns-clause-ends g c bytes is saved = rw c.end_of.ensures (EndsAs-asked c.args.manner _ _ _ _ _ _ _ _ _ saved c.run_edit_stored.result ((rw c.asking-terms.ensures at c.run_edit_stored.ensures.ends) bytes is))

pub returns-clause-told : goal.returns-clause-told
returns-clause-told g c bytes is = rw c.end_of.ensures (RemarksEndAs-end (asking c.args.manner) _ _ _ _ _ _ c.run_edit_stored.result ((rw c.asking-terms.ensures at c.run_edit_stored.ensures.told) bytes is))

pub returns-clause-leaves : goal.returns-clause-leaves
returns-clause-leaves g c = rw c.end_of.ensures (asks_leave c.args.manner _ _ _ _ _ _ c.run_edit_stored.result (rw c.asking-terms.ensures at c.run_edit_stored.ensures.leaves))
