use Rattle.std.proofs.Common.{◌∙◌, ap, inl, refl, subst}
use Rattle.fits_stream.specs.Stream.{Prints}
use Rattle.fits_cli.specs.Answer.{Standing}
use Rattle.fits_cli.specs.Faults.{SaveFails}
use Rattle.fits_cli.specs.Output.{saved_bytes, status_of}
use Rattle.fits_cli.proofs.EndingLemmas.{ends_exit, Fails-due, Succeeds-due}
use Rattle.fits_cli.proofs.ExitLemmas.{once_or}
use Rattle.fits_tell.proofs.ExitLemmas.{at_exit}
use Rattle.fits_cli.proofs.UnderWayLemmas.{told_before}
use Rattle.fits_cli.proofs.editing.save_result.Goals as goal

-- memory is refused for its report, or the lines of what is new can't be written
pub returns-in_err-edited-clause-ends : goal.returns-in_err-edited-clause-ends
returns-in_err-edited-clause-ends g c bytes by file after script script_after held told told_after run =
    ends_exit _ _ _ _ _ _ c.from_residual.ensures.1 (inl (c.in_err-edited.ensures.holds bytes by file after script script_after held told told_after run, refl))

pub returns-in_err-edited-clause-leaves : goal.returns-in_err-edited-clause-leaves
returns-in_err-edited-clause-leaves g c = at_exit _ _ _ c.from_residual.ensures.1 (c.in_err-edited.ensures.leaves (g.P.Sink.state c.args.saved.now))

-- something keeps it back
pub returns-in-Some-clause-ends : goal.returns-in-Some-clause-ends
returns-in-Some-clause-ends g c bytes by file after script script_after held told told_after run =
    (rw c.in-Some.is at (c.in_ok-edited.ensures.holds bytes by file after script script_after held told told_after run)) (g.P.Sink.state c.args.saved.now)

pub returns-in-Some-clause-like : goal.returns-in-Some-clause-like
returns-in-Some-clause-like g c = (rw c.in-Some.is at c.in_ok-edited.ensures.leaves).2 _ _ (g.P.Sink.state c.args.saved.now)

-- it can't be saved
pub returns-in_err-save-in-None-clause-ends : goal.returns-in_err-save-in-None-clause-ends
returns-in_err-save-in-None-clause-ends g c bytes by file after script script_after held told told_after run =
    let mid = told_before g.H.Holder.whole bytes c.held_back.new.runner.log c.save.new.self.log c.save.ensures.follows by in
    let due = rw c.in-None.is at (c.in_ok-edited.ensures.holds bytes mid file after script script_after held told told_after run) in
    ends_exit _ _ _ _ _ _ c.from_residual-in_err-save-in-None.ensures.1
    (Fails-due _ _ _ _ _ _ _ due (once_or g.H.Holder.whole _ c.in_err-save-in-None.ensures.once)
    (subst (λ (s : Standing). SaveFails (saved_bytes c.args.terms s) (g.P.Sink.state c.args.saved.now) (g.P.Sink.state c.save.new.saved) c.in_err-save-in-None.field-0.0) (c.held_back.ensures.standing bytes) (c.in_err-save-in-None.ensures.err bytes by)))

-- it is
pub returns-in_ok-save-in-None-clause-ends : goal.returns-in_ok-save-in-None-clause-ends
returns-in_ok-save-in-None-clause-ends g c bytes by file after script script_after held told told_after run =
    let mid = told_before g.H.Holder.whole bytes c.held_back.new.runner.log c.save.new.self.log c.save.ensures.follows by in
    let due = rw c.in-None.is at (c.in_ok-edited.ensures.holds bytes mid file after script script_after held told told_after run) in
    rw (c.status.ensures bytes ∙ ap status_of (c.save.ensures.standing bytes ∙ c.held_back.ensures.standing bytes))
    (Succeeds-due _ _ _ _ _ _ due (subst (λ (s : Standing). Prints (saved_bytes c.args.terms s) (g.P.Sink.state c.args.saved.now) (g.P.Sink.state c.save.new.saved)) (c.held_back.ensures.standing bytes) (c.in_ok-save-in-None.ensures.ok bytes by)) c.in_ok-save-in-None.ensures.flushed)

pub returns-in_err-save-in-None-clause-follows : goal.returns-in_err-save-in-None-clause-follows
returns-in_err-save-in-None-clause-follows g c = rw c.held_back.ensures.log at c.save.ensures.follows

pub returns-in_ok-save-in-None-clause-follows : goal.returns-in_ok-save-in-None-clause-follows
returns-in_ok-save-in-None-clause-follows g c = rw c.held_back.ensures.log at c.save.ensures.follows
