use Rattle.fits_passing.specs.Report.{found_names}
use Rattle.fits_passing.proofs.ReportLemmas.{listed_more}
use Rattle.fits_passing.proofs.reporting.problems.Goals as goal

pub loop-i-preserved : goal.loop-i-preserved
loop-i-preserved c =
    listed_more c.args.found.now c.loop-i.i c.index-found-i.result c.is_repeated-repeated.result c.loop-i.report.items c.push_problems.new.report.items c.loop-i-test.true c.index-found-i.is (c.is_repeated-repeated.ensures (found_names c.args.found.now) c.requires.told) c.loop-i.invariant (rw c.deref.ensures.value at c.in_ok-push_problems.ensures)
