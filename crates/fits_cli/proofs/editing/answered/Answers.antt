use Rattle.std.proofs.Common.{ap, refl}
use Rattle.fits_cli.specs.Answer.{Standing}
use Rattle.fits_cli.specs.Running.{standing_at}
use Rattle.fits_cli.proofs.EditingLemmas.{answered_run, AreToldOf-script, StopsBy-script, StopsBy-unread}
use Rattle.fits_tell.proofs.ExitLemmas.{at_exit}
use Rattle.fits_cli.proofs.ExitLemmas.{once_or}
use Rattle.fits_cli.proofs.FrameLemmas.{answers_done, answers_stop, script_none}
use Rattle.fits_cli.proofs.UnderWayLemmas.{told_before}
use Rattle.fits_cli.specs.Reports.{read_reports}
use Rattle.fits_cli.proofs.editing.answered.Goals as goal

-- memory is refused for the file's report
pub returns-in_err-before-clause-err : goal.returns-in_err-before-clause-err
returns-in_err-before-clause-err g c bytes by = at_exit c.from_residual.result _ _ c.from_residual.ensures.1 (λ parts first file after opened quiet. StopsBy-unread _ _ quiet refl refl)

-- the script isn't answered to its end
pub returns-in_err-flush_answers-clause-err : goal.returns-in_err-flush_answers-clause-err
returns-in_err-flush_answers-clause-err g c bytes by =
    at_exit c.from_residual-in_err-flush_answers.result _ _ c.from_residual-in_err-flush_answers.ensures.1
    (λ parts first file after opened quiet. StopsBy-script _ _ _ _ _ c.answer_script-answered.result c.flush_answers.result _ parts (standing_at bytes c.answer_script-answered.new.runner) c.in_err-flush_answers.was opened quiet
    (once_or g.H.Holder.whole _ c.answer_script-answered.ensures.once) (rw (c.report_for.ensures.standing bytes, first) at (c.answer_script-answered.ensures.ok bytes by))
    (rw (c.report_for.ensures.standing bytes, first) at (c.answer_script-answered.ensures.err bytes by)) c.flush_answers.ensures)

-- it is
pub returns-clause-ok : goal.returns-clause-ok
returns-clause-ok g c bytes by parts first file after opened quiet =
    answered_run _ _ _ _ _ c.answer_script-answered.result c.flush_answers.result _ parts (standing_at bytes c.answer_script-answered.new.runner) (read_reports c.in_ok-before.before) c.in_ok-flush_answers.was opened quiet
    (λ counts. rw (ap (λ (s : Standing). s.marked.file) first) at (c.in_ok-before.ensures.value (rw c.check.ensures counts) bytes (told_before g.H.Holder.whole bytes _ _ (rw c.report_for.ensures.log at c.answer_script-answered.ensures.follows) by)))
    (rw (c.report_for.ensures.standing bytes, first) at (c.answer_script-answered.ensures.ok bytes by)) c.flush_answers.ensures

-- what is said where it isn't
pub returns-in_err-flush_answers-clause-told : goal.returns-in_err-flush_answers-clause-told
returns-in_err-flush_answers-clause-told g c bytes by =
    at_exit c.from_residual-in_err-flush_answers.result _ _ c.from_residual-in_err-flush_answers.ensures.1
    (λ parts first file after opened quiet. AreToldOf-script c.args.terms file after _ _ _ _ _ _ c.answer_script-answered.result parts (standing_at bytes c.answer_script-answered.new.runner) opened
    (rw (c.report_for.ensures.standing bytes, first) at (c.answer_script-answered.ensures.ok bytes by)) (rw (c.report_for.ensures.standing bytes, first) at (c.answer_script-answered.ensures.err bytes by)))

pub returns-clause-said : goal.returns-clause-said
returns-clause-said g c = (answers_done _ _ _ _ _ c.answer_script-answered.result c.flush_answers.result _ c.in_ok-flush_answers.was c.answer_script-answered.ensures.said c.flush_answers.ensures).0

pub returns-clause-flushed : goal.returns-clause-flushed
returns-clause-flushed g c = (answers_done _ _ _ _ _ c.answer_script-answered.result c.flush_answers.result _ c.in_ok-flush_answers.was c.answer_script-answered.ensures.said c.flush_answers.ensures).1

pub returns-in_err-before-clause-leaves : goal.returns-in_err-before-clause-leaves
returns-in_err-before-clause-leaves g c = at_exit c.from_residual.result _ _ c.from_residual.ensures.1 (script_none _ _)

pub returns-in_err-flush_answers-clause-leaves : goal.returns-in_err-flush_answers-clause-leaves
returns-in_err-flush_answers-clause-leaves g c =
    at_exit c.from_residual-in_err-flush_answers.result _ _ c.from_residual-in_err-flush_answers.ensures.1
    (answers_stop _ _ _ _ _ c.answer_script-answered.result c.flush_answers.result _ c.in_err-flush_answers.was c.answer_script-answered.ensures.said c.answer_script-answered.ensures.leaves c.flush_answers.ensures)

pub returns-in_err-flush_answers-clause-follows : goal.returns-in_err-flush_answers-clause-follows
returns-in_err-flush_answers-clause-follows g c = rw c.report_for.ensures.log at c.answer_script-answered.ensures.follows

pub returns-clause-follows : goal.returns-clause-follows
returns-clause-follows g c = rw c.report_for.ensures.log at c.answer_script-answered.ensures.follows
