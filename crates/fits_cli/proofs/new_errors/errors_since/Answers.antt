use Rattle.std.proofs.Common.{sym, ◌∙◌, ◌+◌, arith}
use Rattle.fits_cli.specs.NewErrors.{is_new, new_errors}
use Rattle.fits_cli.proofs.NewErrorLemmas.{lines-new, lines-old, new-counted, old-uncounted, error-counted, error-uncounted, few-errors, other-warnings}
use Rattle.fits_cli.proofs.new_errors.errors_since.Goals as goal
use Rattle.fits_cli.proofs.new_errors.errors_since.Goals.{then-is_new+in_ok-push_new_error, else-is_new}

pub loop-it-preserved : goal.loop-it-preserved
loop-it-preserved c =
    let p = is_new c.args.level c.args.before.now c.args.after.now in
    let own = sym (c.is_new.ensures c.args.after.now c.counts_of-has.ensures) in
    elim c.if-is_new.branch [
      | then-is_new+in_ok-push_new_error w ↦
          let count = new-counted p c.args.after.now c.loop-it.it-index c.loop-it.count _ c.loop-it-test.true (own ∙ w.if-is_new.true) c.loop-it.invariant.count in
          let errors = error-counted p c.args.after.now c.loop-it.it-index c.loop-it.errors _ c.loop-it-test.true (own ∙ w.if-is_new.true) c.loop-it.invariant.errors in
          rw (w.text-is, w.count-is, w.errors-is, w.one_if.ensures, w.is_error.ensures) (record {
            text = lines-new p c.args.after.now c.loop-it.it-index _ c.loop-it.text.items _ c.loop-it-test.true (own ∙ w.if-is_new.true) c.loop-it.invariant.text w.in_ok-push_new_error.ensures;
            count = count;
            errors = errors;
            few = few-errors p c.args.after.now (c.loop-it.it-index + 1) _ _ count errors;
            within = omega (arith, c.loop-it.invariant.within);
          })
      | else-is_new w ↦
          rw (w.text-is, w.count-is, w.errors-is) (record {
            text = lines-old p c.args.after.now c.loop-it.it-index _ c.loop-it.text.items c.loop-it-test.true (own ∙ w.if-is_new.false) c.loop-it.invariant.text;
            count = old-uncounted p c.args.after.now c.loop-it.it-index c.loop-it.count _ c.loop-it-test.true (own ∙ w.if-is_new.false) c.loop-it.invariant.count;
            errors = error-uncounted p c.args.after.now c.loop-it.it-index c.loop-it.errors _ c.loop-it-test.true (own ∙ w.if-is_new.false) c.loop-it.invariant.errors;
            few = c.loop-it.invariant.few;
            within = omega (arith, c.loop-it.invariant.within);
          })
    ]

pub returns-clause-warnings : goal.returns-clause-warnings
unfolding new_errors
returns-clause-warnings c =
    other-warnings (is_new c.args.level c.args.before.now c.args.after.now) c.args.after.now c.loop-it.it-index c.loop-it.count c.loop-it.errors c.loop-it-test.false c.loop-it.invariant.count c.loop-it.invariant.errors
