use Rattle.std.proofs.Common.{◌∙◌}
use Rattle.std.proofs.lemmas.List.{length-set}
use Rattle.fits_cli.proofs.NewErrorLemmas.{counts-more}
use Rattle.fits_cli.proofs.code_counts.counts_of.Goals as goal

pub loop-it-preserved : goal.loop-it-preserved
loop-it-preserved c = record {
  counts = counts-more c.args.report.now c.loop-it.it-index c.number.result _ c.loop-it.counts c.loop-it-test.true c.number.ensures c.loop-it.invariant.len c.loop-it.invariant.counts;
  len = length-set _ _ _ ∙ c.loop-it.invariant.len;
}
