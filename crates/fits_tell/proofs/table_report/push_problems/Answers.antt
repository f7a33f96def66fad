use Rattle.fits_tell.specs.declared.listed.Listed.TheVariants.{OfFile}
use Rattle.fits_passing.proofs.ReportLemmas.{mapped_more}
use Rattle.fits_tell.proofs.table_report.push_problems.Goals as goal

-- one more is listed
pub loop-it-preserved : goal.loop-it-preserved
loop-it-preserved c =
    mapped_more OfFile c.args.problems.now.items c.loop-it.problems.items c.push.new.self.items c.args.report.now c.loop-it.it-index _ c.loop-it.invariant c.in_ok-push.ensures.items c.loop-it-test.true
