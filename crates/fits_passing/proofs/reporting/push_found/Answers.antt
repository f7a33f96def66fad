use Rattle.fits_passing.specs.Report.{in_hdu}
use Rattle.fits_passing.proofs.ReportLemmas.{mapped_more}
use Rattle.fits_passing.proofs.reporting.push_found.Goals as goal

-- a finding more is listed
pub loop-finding-preserved : goal.loop-finding-preserved
loop-finding-preserved c =
    mapped_more (in_hdu c.args.h) c.args.report.now.items c.loop-finding.report.items c.push.new.self.items c.args.found.now c.loop-finding.finding-index _ c.loop-finding.invariant c.in_ok-push.ensures.items c.loop-finding-test.true
