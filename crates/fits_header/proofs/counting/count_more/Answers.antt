use Rattle.std.proofs.Common.{◌∙◌, ◌++◌, List, ap, arith}
use Rattle.std.proofs.lemmas.List.{take_all}
use Rattle.fits_codes.specs.declared.code.Code.{Code}
use Rattle.fits_header.specs.Findings.{counts_of}
use Rattle.fits_header.proofs.FindingLemmas.{counted-more}
use Rattle.fits_header.proofs.counting.count_more.Goals as goal

pub loop-index-preserved : goal.loop-index-preserved
loop-index-preserved c = record {
  value = λ found is. counted-more found c.args.codes.now c.loop-index.index _ c.loop-index.counts c.count_one-counts.result c.loop-index-test.true c.count_one-counts.ensures.value (c.loop-index.invariant.value found is);
  sum = omega (arith, c.count_one-counts.ensures.sum, c.loop-index.invariant.sum);
}

pub returns-clause-value : goal.returns-clause-value
returns-clause-value c found is =
    c.loop-index.invariant.value found is ∙ ap (λ (codes : List Code). counts_of (found ++ codes)) (take_all c.loop-index.index c.args.codes.now c.loop-index-test.false)
