use Rattle.std.proofs.Common.{rules, ℤ, Some, ◌≡◌, IfSome}
use Rattle.std.specs.Prelude.{FitsSigned}
use Rattle.std.specs.Int.{w64}
use Rattle.fits_value.specs.Number.{IsIntegerOf}
use Rattle.fits_value.proofs.IntegerLemmas.{some_integer, no_integer}
use Rattle.fits_value.proofs.number.integer_of.Goals as goal

pub returns-in_err-is_negative-clause-none : goal.returns-in_err-is_negative-clause-none
returns-in_err-is_negative-clause-none c = no_integer c.args.text.now _ (λ number w f. absurd (c.in_err-is_negative.ensures.only w.negative w.digits w.spelled))

pub returns-in_err-size-clause-none : goal.returns-in_err-size-clause-none
returns-in_err-size-clause-none c =
    let only : (number : ℤ) → IsIntegerOf c.args.text.now number → FitsSigned w64 number → c.from_residual-in_err-size.result ≡ Some number = search rules in
    no_integer c.args.text.now c.from_residual-in_err-size.result only

pub returns-clause-found : goal.returns-clause-found
returns-clause-found c =
    let value : IfSome c.with_sign.result (λ n. IsIntegerOf c.args.text.now n) = search rules in
    some_integer c.args.text.now c.with_sign.result value

pub returns-clause-none : goal.returns-clause-none
returns-clause-none c =
    let only : (number : ℤ) → IsIntegerOf c.args.text.now number → FitsSigned w64 number → c.with_sign.result ≡ Some number = search rules in
    no_integer c.args.text.now c.with_sign.result only
