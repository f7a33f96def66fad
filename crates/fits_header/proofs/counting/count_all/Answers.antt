use Rattle.std.proofs.Common.{◌∙◌, ◌++◌, ℕ, List, ap, arith, length}
use Rattle.std.specs.List.{flat_map, range_with_len}
use Rattle.std.proofs.lemmas.List.{length-map}
use Rattle.fits_header.specs.Notes.{note_of}
use Rattle.fits_codes.specs.declared.code.Code.{Code}
use Rattle.fits_header.specs.Findings.{codes_at, counts_of}
use Rattle.fits_header.proofs.FindingLemmas.{found-more, counted-all}
use Rattle.fits_header.proofs.counting.count_all.Goals as goal

pub loop-index-preserved : goal.loop-index-preserved
loop-index-preserved c = record {
  value = λ cards notes around.
      let found : ℕ → List Code = codes_at c.args.shape.now cards in
      let before : List Code = flat_map found (range_with_len 1 c.loop-index.index) in
      c.count_more-counts.ensures.value before (c.loop-index.invariant.value cards notes around)
      ∙ (ap (λ (codes : List Code). counts_of (before ++ codes)) (c.as_slice.ensures.value ∙ c.codes_at-codes.ensures cards notes around)
      ∙ ap counts_of (found-more found c.loop-index.index));
  few = omega (arith, c.count_more-counts.ensures.sum, c.loop-index.invariant.few, c.as_slice.ensures.within, ap length c.as_slice.ensures.value);
}

pub returns-clause-value : goal.returns-clause-value
returns-clause-value c cards notes around =
    c.loop-index.invariant.value cards notes around
    ∙ counted-all c.args.shape.now cards c.loop-index.index (omega (arith, c.loop-index.auto.index-end, c.loop-index-test.false, ap length notes, length-map cards note_of))
