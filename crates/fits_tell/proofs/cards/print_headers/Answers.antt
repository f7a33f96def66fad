use Rattle.std.proofs.Common.{◌≡◌, ◌∙◌, ◌<◌, ◌==◌, ap, length, arith}
use Rattle.std.proofs.lemmas.Grind.{common_steps}
use Rattle.fits_passing.specs.Headers.{read_cards}
use Rattle.fits_tell.proofs.CardLemmas.{any_more, changed_more, chosen_more, headers_kept, prints_header, stops_at_header, stops_in_header}
use Rattle.fits_tell.proofs.ExitLemmas.{at_exit}
use Rattle.fits_tell.proofs.VerifyingLemmas.{PrintingStops-print}
use Rattle.fits_tell.proofs.cards.print_headers.Goals as goal

pub returns-in_err-shown-clause-err : goal.returns-in_err-shown-clause-err
returns-in_err-shown-clause-err g c =
    at_exit _ _ _ c.from_residual.ensures.1 (stops_at_header _ _ c.args.choice.now c.args.numbers.now (read_cards c.args.headers.now.items) c.loop-i.i c.loop-i.invariant.printed)

pub returns-in_err-push_cards-clause-err : goal.returns-in_err-push_cards-clause-err
returns-in_err-push_cards-clause-err g c =
    at_exit _ _ _ c.from_residual-in_err-push_cards.ensures.1 (stops_at_header _ _ c.args.choice.now c.args.numbers.now (read_cards c.args.headers.now.items) c.loop-i.i c.loop-i.invariant.printed)

pub returns-in_err-push_changed-clause-err : goal.returns-in_err-push_changed-clause-err
returns-in_err-push_changed-clause-err g c =
    at_exit _ _ _ c.from_residual-in_err-push_changed.ensures.1 (stops_at_header _ _ c.args.choice.now c.args.numbers.now (read_cards c.args.headers.now.items) c.loop-i.i c.loop-i.invariant.printed)

pub returns-in_err-print-clause-err : goal.returns-in_err-print-clause-err
returns-in_err-print-clause-err g c =
    let l : c.loop-i.i < length c.loop-i.headers.items = omega (arith, c.loop-i.invariant.count) in
    let more =
    chosen_more c.args.choice.now c.args.numbers.now c.loop-i.headers.items (read_cards c.args.headers.now.items) c.loop-i.i c.index_mut-cards.result.now c.in_ok-shown.shown.items c.loop-i.invariant.same l c.index_mut-cards.ensures.value c.in_ok-shown.ensures.chosen in
    at_exit _ _ _ c.from_residual-in_err-print.ensures.1
    (stops_in_header _ _ _ c.args.choice.now c.args.numbers.now (read_cards c.args.headers.now.items) c.loop-i.i _ c.in_err-print.field-0.0 more c.loop-i.invariant.printed
    (PrintingStops-print _ _ _ c.in_err-print.field-0.0 (rw (c.deref-in-loop-i-2.ensures.value, c.in_ok-push_cards.ensures, c.deref.ensures.value, c.clear.ensures.items) at c.in_err-print.ensures.err)))

pub loop-i-preserved : goal.loop-i-preserved
loop-i-preserved g c =
    let l : c.loop-i.i < length c.loop-i.headers.items = omega (arith, c.loop-i.invariant.count) in
    let more =
    chosen_more c.args.choice.now c.args.numbers.now c.loop-i.headers.items (read_cards c.args.headers.now.items) c.loop-i.i c.index_mut-cards.result.now c.in_ok-shown.shown.items c.loop-i.invariant.same l c.index_mut-cards.ensures.value c.in_ok-shown.ensures.chosen in
    let len : c.in_ok-shown.shown.len ≡ length c.in_ok-shown.shown.items = omega (arith, c.in_ok-shown.shown.ok) in
    record {
      same = headers_kept c.loop-i.headers.items _ c.loop-i.i c.index_mut-cards.result.now _ c.loop-i.invariant.same c.index_mut-cards.ensures.value c.chosen.ensures.same;
      count = grind (arith, common_steps);
      printed = prints_header _ _ _ c.args.choice.now _ _ _ more c.loop-i.invariant.printed (rw (c.deref-in-loop-i-2.ensures.value, c.in_ok-push_cards.ensures, c.deref.ensures.value, c.clear.ensures.items) at c.in_ok-print.ensures.ok);
      changed = changed_more _ _ _ _ _ _ more c.loop-i.invariant.changed (rw c.deref-in-loop-i.ensures.value at c.in_ok-push_changed.ensures);
      any = any_more _ _ c.in_ok-shown.shown.items _ c.is_empty.result more c.loop-i.invariant.any (c.is_empty.ensures ∙ ap (λ n. n == 0) len);
    }
