use Rattle.std.proofs.Common.{inl, refl}
use Rattle.fits_cli.specs.Planned.{edited_of}
use Rattle.fits_cli.specs.Reports.{read_reports}
use Rattle.fits_cli.specs.Running.{standing_at, standing_over, guarded_by}
use Rattle.fits_cli.proofs.EditingLemmas.{over_remarks_exit, RemarksBy-answered}
use Rattle.fits_cli.proofs.EndingLemmas.{over_exit}
use Rattle.fits_cli.proofs.FrameLemmas.{leaves_stopped, over_answered, over_stopped}
use Rattle.fits_cli.proofs.UnderWayLemmas.{follows_more}
use Rattle.fits_cli.proofs.overwriting.run_over.Goals as goal

pub plan_result-requires-clause-ordered : goal.plan_result-requires-clause-ordered
plan_result-requires-clause-ordered g c = c.in_ok-before.ensures.ordered

-- the script isn't answered to its end
pub returns-in_err-before-clause-ends : goal.returns-in_err-before-clause-ends
returns-in_err-before-clause-ends g c bytes is parts first file after opened quiet = over_exit _ _ _ _ _ _ _ _ c.from_residual.ensures.1 (inl (c.in_err-before.ensures.err bytes (λ away. is) parts first file after opened quiet, refl))

pub returns-in_err-before-clause-told : goal.returns-in_err-before-clause-told
returns-in_err-before-clause-told g c bytes is parts first file after opened quiet = over_remarks_exit _ _ _ _ _ _ _ _ _ c.from_residual.ensures.1 (c.in_err-before.ensures.told bytes (λ away. is) parts first file after opened quiet)

-- it is
pub returns-clause-ends : goal.returns-clause-ends
returns-clause-ends g c bytes is parts first file after opened quiet =
    c.plan_result.ensures.ends bytes is file after _ _ _ _ _ (c.in_ok-before.ensures.ok bytes (λ away. c.plan_result.ensures.follows bytes is) parts first file after opened quiet)

pub returns-clause-told : goal.returns-clause-told
returns-clause-told g c bytes is parts first file after opened quiet =
    RemarksBy-answered _ _ _ _ (standing_at bytes c.answered.new.runner) (read_reports c.in_ok-before.before) (edited_of c.plan_result.result) (c.in_ok-before.ensures.ok bytes (λ away. c.plan_result.ensures.follows bytes is) parts first file after opened quiet)

pub returns-clause-follows : goal.returns-clause-follows
returns-clause-follows g c = follows_more _ _ _ c.in_ok-before.ensures.follows c.plan_result.ensures.follows

-- what stands then
pub returns-in_err-before-clause-leaves : goal.returns-in_err-before-clause-leaves
returns-in_err-before-clause-leaves g c = over_stopped _ _ _ _ _ _ _ _ _ c.from_residual.ensures.1 (leaves_stopped c.args.terms.saves _ _ _ _ _ c.in_err-before.field-0.0 c.in_err-before.ensures.leaves)

pub returns-clause-leaves : goal.returns-clause-leaves
returns-clause-leaves g c =
    over_answered c.args.terms _ _ _ _ _ _ _ (standing_over c.answered.new.runner (guarded_by c.answered.new.runner c.answered.new.runner.session)) c.plan_result.result (c.in_ok-before.ensures.said, c.in_ok-before.ensures.flushed)
    c.plan_result.ensures.said c.plan_result.ensures.flushed c.plan_result.ensures.like c.plan_result.ensures.leaves
