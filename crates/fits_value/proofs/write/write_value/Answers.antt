use Rattle.std.proofs.Common.{◌∙◌, sym, ap, not}
use Rattle.std.specs.Prelude.{is_ok}
use Rattle.std.proofs.lemmas.Bool.{cond-false}
use Rattle.fits_value.proofs.InnerLemmas.{inner_result}
use Rattle.fits_value.proofs.WriteLemmas.{bad_says, says_fit, ok_says, firm_says}
use Rattle.fits_value.specs.Written.{cards_of, all_fit, write_says}
use Rattle.fits_value.proofs.write.write_value.Goals as goal

pub returns-then-is_err-clause-bad : goal.returns-then-is_err-clause-bad
returns-then-is_err-clause-bad c = λ _. bad_says c.args.name.now c.args.value.now c.args.comment.now (ap is_ok (sym c.writable_parts.ensures) ∙ (c.is_err.ensures.negation ∙ ap not c.if-is_err.true))

pub returns-clause-ok : goal.returns-clause-ok
returns-clause-ok c =
    let e = says_fit c.args.name.now c.args.value.now c.args.comment.now (ap is_ok (sym c.writable_parts.ensures) ∙ (c.is_err.ensures.negation ∙ ap not c.if-is_err.false)) in
    ok_says c.written.result (cards_of c.args.name.now c.args.value.now c.args.comment.now) (all_fit (cards_of c.args.name.now c.args.value.now c.args.comment.now)) (write_says c.args.name.now c.args.value.now c.args.comment.now) e c.written.ensures.ok c.written.ensures.fits

pub returns-clause-inner : goal.returns-clause-inner
returns-clause-inner c = inner_result c.written.result c.args.name.now c.args.value.now c.args.comment.now c.requires.settable c.written.ensures.ok c.written.ensures.fits c.written.ensures.size

pub returns-clause-bad : goal.returns-clause-bad
returns-clause-bad c = λ bad.
    let e = says_fit c.args.name.now c.args.value.now c.args.comment.now (ap is_ok (sym c.writable_parts.ensures) ∙ (c.is_err.ensures.negation ∙ ap not c.if-is_err.false)) in
    e ∙ cond-false (all_fit (cards_of c.args.name.now c.args.value.now c.args.comment.now)) _ _ (c.written.ensures.bad bad)

pub returns-clause-firm : goal.returns-clause-firm
returns-clause-firm c = λ none.
    let e = says_fit c.args.name.now c.args.value.now c.args.comment.now (ap is_ok (sym c.writable_parts.ensures) ∙ (c.is_err.ensures.negation ∙ ap not c.if-is_err.false)) in
    firm_says c.written.result (cards_of c.args.name.now c.args.value.now c.args.comment.now) (all_fit (cards_of c.args.name.now c.args.value.now c.args.comment.now)) (write_says c.args.name.now c.args.value.now c.args.comment.now) e c.written.ensures.firm none
