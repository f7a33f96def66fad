use Rattle.std.proofs.Common.{arith}
use Rattle.std.proofs.lemmas.Grind.{common_steps}
use Rattle.fits_passing.proofs.ReportLemmas.{report_listed}
use Rattle.fits_passing.proofs.reporting.report_of.Goals as goal

pub returns : goal.returns
returns c bytes file is each follows =
    report_listed c.args.found.now bytes file _ _ _ is each (grind (arith, common_steps)) c.in_ok-report.ensures (c.in_ok-push_trailing.ensures file.tail follows)
