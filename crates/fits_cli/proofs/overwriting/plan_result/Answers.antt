use Rattle.std.proofs.Common.{◌∙◌, ap, inl, refl, subst}
use Rattle.fits_cli.specs.Answer.{Standing}
use Rattle.fits_cli.specs.Faults.{SaveFails}
use Rattle.fits_cli.specs.Output.{saved_bytes, status_of}
use Rattle.fits_cli.specs.Planned.{PlansOrSaves}
use Rattle.fits_cli.proofs.EndingLemmas.{over_exit, Ends-over, Fails-due}
use Rattle.fits_tell.proofs.ExitLemmas.{at_exit}
use Rattle.fits_cli.proofs.overwriting.plan_result.Goals as goal

-- memory is refused for its report, or the lines of what is new can't be written
pub returns-in_err-edited-clause-ends : goal.returns-in_err-edited-clause-ends
returns-in_err-edited-clause-ends g c bytes is file after script script_after held told told_after run =
    over_exit _ _ _ _ _ _ _ _ c.from_residual.ensures.1 (inl (c.in_err-edited.ensures.holds bytes (λ away. is) file after script script_after held told told_after run, refl))

pub returns-in_err-edited-clause-leaves : goal.returns-in_err-edited-clause-leaves
returns-in_err-edited-clause-leaves g c = at_exit _ _ _ c.from_residual.ensures.1 (c.in_err-edited.ensures.leaves (g.P.Sink.state c.args.saved.now))

-- something keeps it back
pub returns-in-Some-clause-ends : goal.returns-in-Some-clause-ends
returns-in-Some-clause-ends g c bytes is file after script script_after held told told_after run =
    (rw c.in-Some.is at (c.in_ok-edited.ensures.holds bytes (λ away. is) file after script script_after held told told_after run)) (g.P.Sink.state c.args.saved.now)

pub returns-in-Some-clause-like : goal.returns-in-Some-clause-like
returns-in-Some-clause-like g c = (rw c.in-Some.is at c.in_ok-edited.ensures.leaves).2 _ _ (g.P.Sink.state c.args.saved.now)

-- it is neither planned nor saved
pub returns-in_err-plan-in-None-clause-ends : goal.returns-in_err-plan-in-None-clause-ends
returns-in_err-plan-in-None-clause-ends g c bytes is file after script script_after held told told_after run =
    let due = rw c.in-None.is at (c.in_ok-edited.ensures.holds bytes (λ away. c.plan_or_save.ensures.follows bytes is) file after script script_after held told told_after run) in
    over_exit _ _ _ _ _ _ _ _ c.from_residual-in_err-plan-in-None.ensures.1
    (Fails-due _ _ _ _ _ _ _ due (inl refl)
    (subst (λ (s : Standing). SaveFails (saved_bytes c.args.terms s) (g.P.Sink.state c.args.saved.now) (g.P.Sink.state c.plan_or_save.new.saved) c.in_err-plan-in-None.field-0.0) (c.held_back.ensures.standing bytes) (c.in_err-plan-in-None.ensures.err bytes is)))

-- it is one or the other
pub returns-in_ok-plan-in-None-clause-ends : goal.returns-in_ok-plan-in-None-clause-ends
returns-in_ok-plan-in-None-clause-ends g c bytes is file after script script_after held told told_after run =
    let due = rw c.in-None.is at (c.in_ok-edited.ensures.holds bytes (λ away. c.plan_or_save.ensures.follows bytes is) file after script script_after held told told_after run) in
    rw (c.status.ensures bytes ∙ ap status_of (c.plan_or_save.ensures.standing bytes ∙ c.held_back.ensures.standing bytes))
    (Ends-over _ bytes _ _ _ _ _ _ c.in_ok-plan-in-None.plan due
    (subst (λ (s : Standing). PlansOrSaves c.args.len bytes (saved_bytes c.args.terms s) (g.P.Sink.state c.args.saved.now) (g.P.Sink.state c.plan_or_save.new.saved) c.in_ok-plan-in-None.plan) (c.held_back.ensures.standing bytes) (c.in_ok-plan-in-None.ensures.ok bytes is)))

pub returns-in_err-plan-in-None-clause-follows : goal.returns-in_err-plan-in-None-clause-follows
returns-in_err-plan-in-None-clause-follows g c = rw c.held_back.ensures.log at c.plan_or_save.ensures.follows

pub returns-in_ok-plan-in-None-clause-follows : goal.returns-in_ok-plan-in-None-clause-follows
returns-in_ok-plan-in-None-clause-follows g c = rw c.held_back.ensures.log at c.plan_or_save.ensures.follows
