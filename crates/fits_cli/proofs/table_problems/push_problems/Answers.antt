use Rattle.fits_cli.specs.NewTables.{problem_in}
use Rattle.fits_passing.proofs.ReportLemmas.{mapped_more}
use Rattle.fits_cli.proofs.table_problems.push_problems.Goals as goal

-- one more is listed
pub loop-code-preserved : goal.loop-code-preserved
loop-code-preserved c =
    mapped_more (problem_in c.args.h) c.args.report.now.items c.loop-code.report.items c.push.new.self.items c.args.codes.now c.loop-code.code-index _ c.loop-code.invariant c.in_ok-push.ensures.items c.loop-code-test.true
