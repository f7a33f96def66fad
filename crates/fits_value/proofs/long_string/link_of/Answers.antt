use Rattle.std.proofs.Common.{◌≡◌, ◌∙◌, sym, ap, Some}
use Rattle.fits_value.specs.Says.{card_says, said_string}
use Rattle.fits_value.specs.declared.value.Value.{Value}
use Rattle.fits_value.specs.declared.value.Value.TheVariants.{Str}
use Rattle.fits_value.proofs.ReadLemmas.{Said}
use Rattle.fits_value.proofs.ChainingLemmas.{link_says-none, link_says-continue, link_speaks, string_with-other}
use Rattle.fits_value.proofs.long_string.link_of.Goals as goal

pub returns-in_default-clause-value : goal.returns-in_default-clause-value
returns-in_default-clause-value c = sym (link_says-none c.args.card.now (sym c.in_default.ensures))

pub returns-in_err-value-clause-firm : goal.returns-in_err-value-clause-firm
returns-in_err-value-clause-firm c = λ e. absurd (link_speaks c.args.card.now _ (sym c.in-Some.ensures) e)

pub returns-in_default-2-clause-value : goal.returns-in_default-2-clause-value
returns-in_default-2-clause-value c =
    let none = sym c.in_ok-value.ensures.value ∙ c.in_default-2.is in
    sym (link_says-continue c.args.card.now _ (sym c.in-Some.ensures) ∙ ap said_string none)

pub returns-in-Str-clause-value : goal.returns-in-Str-clause-value
returns-in-Str-clause-value c =
    let said : card_says c.args.card.now ≡ Some (Str c.in-Str.text, c.in-Some-2.comment) =
    sym c.in_ok-value.ensures.value ∙ (c.in-Some-2.is ∙ ap (λ (x : Value). let y : Said = (x, c.in-Some-2.comment) in Some y) c.in-Str.is) in
    sym (link_says-continue c.args.card.now _ (sym c.in-Some.ensures) ∙ ap said_string said)

pub returns-in-Str-clause-firm : goal.returns-in-Str-clause-firm
returns-in-Str-clause-firm c = λ e. absurd (link_speaks c.args.card.now _ (sym c.in-Some.ensures) e)

pub returns-clause-value : goal.returns-clause-value
returns-clause-value c =
    let said = sym c.in_ok-value.ensures.value ∙ c.in-Some-2.is in
    sym (link_says-continue c.args.card.now _ (sym c.in-Some.ensures) ∙ (ap said_string said ∙ string_with-other c.in-Some-2.value c.in-Some-2.comment c.in_default-value.not-Str))
