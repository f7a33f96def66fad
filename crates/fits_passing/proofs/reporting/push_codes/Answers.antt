use Rattle.fits_passing.proofs.ReportLemmas.{codes_more}
use Rattle.fits_passing.proofs.reporting.push_codes.Goals as goal

-- a code more is listed
pub loop-code-preserved : goal.loop-code-preserved
loop-code-preserved c =
    codes_more c.args.h c.args.report.now.items c.loop-code.report.items c.push.new.self.items c.args.codes.now c.loop-code.code-index _ c.loop-code.invariant c.in_ok-push.ensures.items c.loop-code-test.true
