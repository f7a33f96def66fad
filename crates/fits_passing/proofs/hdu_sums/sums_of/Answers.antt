use Rattle.std.proofs.Common.{◌∙◌, ap}
use Rattle.fits_card.specs.Header.{Header, header_bytes}
use Rattle.fits_sum.specs.OnesComplement.{ones_complement}
use Rattle.fits_sum.specs.Words.{word_total}
use Rattle.fits_passing.specs.HduReading.{passed_parts}
use Rattle.fits_passing.specs.Sums.{data_sum}
use Rattle.fits_passing.proofs.SumLemmas.{verdicts_known}
use Rattle.fits_passing.proofs.hdu_sums.sums_of.Goals as goal

pub returns : goal.returns
unfolding data_sum
returns c =
    let said = c.sum_keywords_in-said.ensures in
    record {
      sum = c.fold-datasum.ensures ∙ ap ones_complement c.total-total.ensures;
      right = verdicts_known c.verdicts_by.result c.sum_keywords_in-said.result c.fold-datasum.result c.whole_sum-whole.result c.header_total.result c.total-total.result (passed_parts c.args.head.cards.header c.args.unit.now) c.verdicts_by.ensures
          said.value c.fold-datasum.ensures c.total-total.ensures c.whole_sum-whole.ensures (c.header_total.ensures.value ∙ ap (λ (h : Header). word_total (header_bytes h)) said.header) c.requires.whole;
    }
