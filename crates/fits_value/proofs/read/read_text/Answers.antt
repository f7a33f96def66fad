use Rattle.std.proofs.Common.{List, ℕ, sym, subst}
use Rattle.fits_value.specs.Value.{IsValueOf}
use Rattle.fits_value.proofs.SaysLemmas.{field_silent, field_speaks, field_made}
use Rattle.fits_value.proofs.read.read_text.Goals as goal

pub returns-in_default-clause-value : goal.returns-in_default-clause-value
returns-in_default-clause-value c = sym (field_silent c.args.text.now c.in_default.ensures.only)

pub returns-in_err-value-clause-firm : goal.returns-in_err-value-clause-firm
returns-in_err-value-clause-firm c = λ e. absurd (field_speaks c.args.text.now _ _ _ c.in-Some.ensures.found e)

pub returns-in_err-comment-clause-firm : goal.returns-in_err-comment-clause-firm
returns-in_err-comment-clause-firm c = λ e. absurd (field_speaks c.args.text.now _ _ _ c.in-Some.ensures.found e)

pub returns-clause-value : goal.returns-clause-value
returns-clause-value c =
    field_made c.args.text.now c.in-Some.reading c.in_ok-value.value c.in_ok-comment.comment c.in-Some.ensures.found c.in_ok-value.ensures.of_kind
    (subst (λ (s : List ℕ). IsValueOf c.in_ok-value.value s) c.part.ensures c.in_ok-value.ensures.value) c.in_ok-comment.ensures

pub returns-clause-firm : goal.returns-clause-firm
returns-clause-firm c = λ e. absurd (field_speaks c.args.text.now _ _ _ c.in-Some.ensures.found e)
