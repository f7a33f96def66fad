use Rattle.fits_tell.specs.TableReport.{of_table}
use Rattle.fits_passing.proofs.ReportLemmas.{mapped_more}
use Rattle.fits_tell.proofs.table_report.push_codes.Goals as goal

-- one more is listed
pub loop-code-preserved : goal.loop-code-preserved
loop-code-preserved c =
    mapped_more (of_table c.args.h) c.args.problems.now.items c.loop-code.problems.items c.push.new.self.items c.args.codes.now c.loop-code.code-index _ c.loop-code.invariant c.in_ok-push.ensures.items c.loop-code-test.true
