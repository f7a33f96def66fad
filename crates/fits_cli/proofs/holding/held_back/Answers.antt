use Rattle.std.proofs.Common.{◌∙◌, refl, sym, inr}
use Rattle.std.proofs.lemmas.Bool.{ltb-true, ltb-false}
use Rattle.fits_cli.specs.Running.{standing_at}
use Rattle.fits_cli.specs.Reports.{read_reports}
use Rattle.fits_cli.proofs.EndingLemmas.{Comes-due, Kept-back, Lacks-report, New-errors-fail, Succeeds-asked, Unsound-printed}
use Rattle.fits_cli.proofs.HoldingLemmas.{holds_exit}
use Rattle.fits_cli.proofs.holding.held_back.Goals as goal

-- no result is wanted
pub returns-in-Nothing-clause-holds : goal.returns-in-Nothing-clause-holds
returns-in-Nothing-clause-holds g c bytes by file after script script_after held told told_after run =
    λ saved. rw (c.status.ensures bytes) (Succeeds-asked _ _ saved told told_after (standing_at bytes c.args.runner.now) (read_reports c.args.before.now) c.in-Nothing.is run)

-- lines that weren't done hold it back
pub returns-then-is_held_back-clause-holds : goal.returns-then-is_held_back-clause-holds
returns-then-is_held_back-clause-holds g c bytes by file after script script_after held told told_after run =
    λ saved. (rw c.refused.ensures.value (Kept-back _ _ told told_after (standing_at bytes c.args.runner.now) (read_reports c.args.before.now) (sym c.is_held_back.ensures ∙ c.if-is_held_back.true) run), refl)

-- memory is refused for its report
pub returns-in_err-found-in-Made-clause-holds : goal.returns-in_err-found-in-Made-clause-holds
returns-in_err-found-in-Made-clause-holds g c bytes by file after script script_after held told told_after run =
    holds_exit _ _ _ _ _ _ c.from_residual.ensures.1
    (Lacks-report _ _ told told_after (standing_at bytes c.args.runner.now) (read_reports c.args.before.now) run (sym c.is_held_back.ensures ∙ c.if-is_held_back.false) (rw c.in-Made.is c.in_err-found-in-Made.ensures.err))

-- the lines of what is new can't be written
pub returns-in_err-print_at_once-in-Made-clause-holds : goal.returns-in_err-print_at_once-in-Made-clause-holds
returns-in_err-print_at_once-in-Made-clause-holds g c bytes by file after script script_after held told told_after run =
    let own = rw c.errors_since.ensures.log at by in
    let fails = rw (c.deref.ensures.value, (c.in_ok-found-in-Made.ensures.text bytes own)) at c.in_err-print_at_once-in-Made.ensures.err in
    holds_exit _ _ _ _ _ _ c.from_residual-in_err-print_at_once-in-Made.ensures.1
    (rw fails.0 (inr (New-errors-fail _ _ _ told told_after (standing_at bytes c.args.runner.now) (read_reports c.args.before.now) c.in_ok-found-in-Made.found.errors c.in_ok-found-in-Made.found.warnings refl refl run (sym c.is_held_back.ensures ∙ c.if-is_held_back.false)
    (rw c.in-Made.is (record { errors_are = (c.in_ok-found-in-Made.ensures.errors bytes own); warnings_are = (c.in_ok-found-in-Made.ensures.warnings bytes own) })) (ltb-true _ _ (sym c.are_some.ensures ∙ c.if-are_some.true)) (rw c.in-Made.is fails.1))))

-- they are
pub returns-then-are_some-clause-holds : goal.returns-then-are_some-clause-holds
returns-then-are_some-clause-holds g c bytes by file after script script_after held told told_after run =
    let own = rw c.errors_since.ensures.log at by in
    let printed = rw (c.deref.ensures.value, (c.in_ok-found-in-Made.ensures.text bytes own)) at c.in_ok-print_at_once-in-Made.ensures.ok in λ saved. (
      Unsound-printed _ _ _ told told_after (standing_at bytes c.args.runner.now) (read_reports c.args.before.now) c.in_ok-found-in-Made.found.errors c.in_ok-found-in-Made.found.warnings refl refl run (sym c.is_held_back.ensures ∙ c.if-is_held_back.false)
          (rw c.in-Made.is (record { errors_are = (c.in_ok-found-in-Made.ensures.errors bytes own); warnings_are = (c.in_ok-found-in-Made.ensures.warnings bytes own) })) (ltb-true _ _ (sym c.are_some.ensures ∙ c.if-are_some.true)) (rw c.in-Made.is printed) c.in_ok-print_at_once-in-Made.ensures.flushed,
      refl,
    )

-- nothing does
pub returns-else-are_some-clause-holds : goal.returns-else-are_some-clause-holds
returns-else-are_some-clause-holds g c bytes by file after script script_after held told told_after run =
    let own = rw c.errors_since.ensures.log at by in
    Comes-due _ _ told told_after (standing_at bytes c.args.runner.now) (read_reports c.args.before.now) c.in-Made.whole c.in-Made.check c.in_ok-found-in-Made.found.errors c.in_ok-found-in-Made.found.warnings run c.in-Made.is (sym c.is_held_back.ensures ∙ c.if-is_held_back.false)
    (rw c.in-Made.is (record { errors_are = (c.in_ok-found-in-Made.ensures.errors bytes own); warnings_are = (c.in_ok-found-in-Made.ensures.warnings bytes own) })) (ltb-false _ _ (sym c.are_some.ensures ∙ c.if-are_some.false))
