use Rattle.std.proofs.Common.{◌∙◌}
use Rattle.fits_hdu.proofs.ReportLemmas.{counts_known, counts_named}
use Rattle.fits_hdu.proofs.hdu.Hdu.counts.Goals as goal

pub returns-clause-value : goal.returns-clause-value
returns-clause-value c =
    let whole = (rw (← c.self.view_is) at c.whole-whole.ensures) in
    rw (← c.self.view_is) (counts_known c.plus-counts.result c.of-of_whole.result c.counts-of_cards.result _ c.self.inside.header.shape c.as_slice.result.now _ c.plus-counts.ensures c.of-of_whole.ensures.value (c.as_slice.ensures.value ∙ whole) c.counts-of_cards.ensures.value c.if-repeated.false)

-- where another extension is called the same
pub returns-then-repeated-clause-value : goal.returns-then-repeated-clause-value
returns-then-repeated-clause-value c =
    let whole = (rw (← c.self.view_is) at c.whole-whole.ensures) in
    rw (← c.self.view_is) (counts_named c.plus.result c.plus-counts.result c.of.result c.of-of_whole.result c.counts-of_cards.result _ c.self.inside.header.shape c.as_slice.result.now _ c.plus.ensures c.of.ensures.value c.plus-counts.ensures c.of-of_whole.ensures.value (c.as_slice.ensures.value ∙ whole) c.counts-of_cards.ensures.value c.if-repeated.true)

-- the cards of the header are counted, and nothing changes
pub invariant_of-self : goal.invariant_of-self
invariant_of-self c =
    let kept = c.self.invariant in
    let same = c.counts-of_cards.ensures.same in
    record {
      described = rw same kept.described;
      size = rw same kept.size;
      layout = rw same kept.layout;
      mark = rw same kept.mark;
      kind = rw same kept.kind;
      sums = rw same kept.sums;
    }

pub invariant_of-self-2 : goal.invariant_of-self-2
invariant_of-self-2 c =
    let kept = c.self.invariant in
    let same = c.counts-of_cards.ensures.same in
    record {
      described = rw same kept.described;
      size = rw same kept.size;
      layout = rw same kept.layout;
      mark = rw same kept.mark;
      kind = rw same kept.kind;
      sums = rw same kept.sums;
    }
