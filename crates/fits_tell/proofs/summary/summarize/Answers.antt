use Rattle.fits_tell.proofs.ExitLemmas.{at_exit}
use Rattle.fits_tell.proofs.SummaryLemmas.{TextIsTold-summary, TextStopsBy-summary}
use Rattle.fits_tell.proofs.VerifyingLemmas.{PrintingStops-print}
use Rattle.fits_tell.proofs.summary.summarize.Goals as goal

pub returns-in_err-print-clause-err : goal.returns-in_err-print-clause-err
returns-in_err-print-clause-err g c =
    at_exit _ _ _ c.from_residual-in_err-print.ensures.1
    (TextStopsBy-summary _ _ _ _ c.args.level c.args.strict c.args.tables _ _ _ c.in_err-print.field-0.0 c.in_ok-problems.ensures.ok c.in_ok-problems.ensures.quiet (rw c.deref.ensures.value at c.in_ok-report.ensures.problems)
    (PrintingStops-print _ _ _ c.in_err-print.field-0.0 (rw (c.deref-3.ensures.value, c.in_ok-text.ensures, c.deref-2.ensures.value) at c.in_err-print.ensures.err)))

pub returns-clause-ok : goal.returns-clause-ok
returns-clause-ok g c =
    TextIsTold-summary _ _ _ _ c.args.level c.args.strict c.args.tables _ _ _ _ c.in_ok-problems.ensures.ok c.in_ok-problems.ensures.quiet (rw c.deref.ensures.value at c.in_ok-report.ensures.problems)
    (rw (c.deref-3.ensures.value, c.in_ok-text.ensures, c.deref-2.ensures.value) at c.in_ok-print.ensures.ok) (rw c.deref-4.ensures.value at c.status_of_report.ensures)
