use Rattle.std.proofs.Common.{◌+◌, ◌∙◌, ap, sym, arith}
use Rattle.std.proofs.lemmas.Bool.{ne_eqb}
use Rattle.fits_value.proofs.QuoteLemmas.{gap, over_gap, quote_at, none_closes, quote_closes, over_pair}
use Rattle.fits_value.proofs.scan_value.closing_place.Goals as goal
use Rattle.fits_value.proofs.scan_value.closing_place.Goals.{then-quote-text-2-via-then-quote-text-2, then-quote-text-2-via-else-quote-text-2+then-text-quote-ne39}

pub returns-then-quote-text-clause-value : goal.returns-then-quote-text-clause-value
returns-then-quote-text-clause-value c =
    let text = c.args.text.now in
    let from = c.loop-place.place in
    let g = c.gap_len.ensures.value ∙ ap gap c.split_at.ensures.back in
    sym (none_closes text (from + c.gap_len.result) (omega arith) (over_gap text from c.gap_len.result g c.loop-place.invariant.1))

pub returns-then-quote-text-2-clause-value : goal.returns-then-quote-text-2-clause-value
returns-then-quote-text-2-clause-value c =
    let text = c.args.text.now in
    let from = c.loop-place.place in
    let g = c.gap_len.ensures.value ∙ ap gap c.split_at.ensures.back in
    let quote = quote_at text from c.gap_len.result g (omega arith) in
    sym (quote_closes text (from + c.gap_len.result) (omega arith) quote
    (λ more. elim c.then-quote-text-2.branch [
      | then-quote-text-2-via-then-quote-text-2 w ↦ absurd (omega arith)
      | then-quote-text-2-via-else-quote-text-2+then-text-quote-ne39 w ↦ ne_eqb _ _ w.if-text-quote-ne39.true
    ])
    (over_gap text from c.gap_len.result g c.loop-place.invariant.1))

pub loop-place-preserved : goal.loop-place-preserved
loop-place-preserved c =
    let text = c.args.text.now in
    let from = c.loop-place.place in
    let g = c.gap_len.ensures.value ∙ ap gap c.split_at.ensures.back in
    let quote = quote_at text from c.gap_len.result g (omega arith) in
    (omega arith, over_pair text (from + c.gap_len.result) (omega arith) quote c.if-text-quote-ne39.false (over_gap text from c.gap_len.result g c.loop-place.invariant.1))
