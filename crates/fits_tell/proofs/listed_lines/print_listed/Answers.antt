use Rattle.std.proofs.Common.{◌∙◌}
use Rattle.fits_passing.specs.Headers.{read_cards}
use Rattle.fits_tell.specs.Listed.{report_closing_line, report_line_at}
use Rattle.fits_tell.proofs.ExitLemmas.{at_exit, last_err, last_ok}
use Rattle.fits_tell.proofs.VerifyingLemmas.{PrintingStops-print, prints_line, prints_report, stops_at_line, stops_at_closing, stops_before_closing}
use Rattle.fits_tell.proofs.listed_lines.print_listed.Goals as goal

pub returns-in_err-print_one-clause-err : goal.returns-in_err-print_one-clause-err
returns-in_err-print_one-clause-err g c =
    at_exit _ _ _ c.from_residual.ensures.1
    (stops_at_line _ _ _ (report_line_at c.args.level (read_cards c.args.headers.now.items)) (report_closing_line c.args.report.now) c.args.report.now c.loop-it.it-index _ c.in_err-print_one.field-0.0 c.loop-it-test.true c.loop-it.invariant.printed
    (rw c.loop-it.invariant.same at c.in_err-print_one.ensures.err))

pub returns-in_err-push_closing_line-clause-err : goal.returns-in_err-push_closing_line-clause-err
returns-in_err-push_closing_line-clause-err g c =
    at_exit _ _ _ c.from_residual-in_err-push_closing_line.ensures.1
    (stops_before_closing _ _ (report_line_at c.args.level (read_cards c.args.headers.now.items)) (report_closing_line c.args.report.now) c.args.report.now c.loop-it.it-index c.loop-it-test.false c.loop-it.invariant.printed)

pub returns-clause-err : goal.returns-clause-err
returns-clause-err g c =
    last_err _ (rw (c.deref.ensures.value, c.in_ok-push_closing_line.ensures, c.clear.ensures.items) at c.print.ensures.err)
    (λ why failed. stops_at_closing _ _ _ (report_line_at c.args.level (read_cards c.args.headers.now.items)) (report_closing_line c.args.report.now) c.args.report.now c.loop-it.it-index why c.loop-it-test.false c.loop-it.invariant.printed (PrintingStops-print _ _ _ why failed))

pub loop-it-preserved : goal.loop-it-preserved
loop-it-preserved g c = record {
  same = c.in_ok-print_one.ensures.same ∙ c.loop-it.invariant.same;
  printed = prints_line _ _ _ (report_line_at c.args.level (read_cards c.args.headers.now.items)) c.args.report.now c.loop-it.it-index _ c.loop-it-test.true c.loop-it.invariant.printed
      (rw c.loop-it.invariant.same at c.in_ok-print_one.ensures.ok);
}

pub returns-clause-ok : goal.returns-clause-ok
returns-clause-ok g c =
    last_ok _ (rw (c.deref.ensures.value, c.in_ok-push_closing_line.ensures, c.clear.ensures.items) at c.print.ensures.ok)
    (λ printed. prints_report _ _ _ (report_line_at c.args.level (read_cards c.args.headers.now.items)) (report_closing_line c.args.report.now) c.args.report.now c.loop-it.it-index c.loop-it-test.false c.loop-it.invariant.printed printed)
