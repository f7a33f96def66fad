use Rattle.std.proofs.Common.{◌≡◌, sym, ap, ◌∙◌, ℕ, ℤ, subst, false}
use Rattle.std.specs.Prelude.{◌↔◌, IsTrue, unsigned_abs}
use Rattle.std.specs.Int.{w128}
use Rattle.std.proofs.lemmas.Bool.{false≢true}
use Rattle.std.proofs.lemmas.Int.{to_z-of_z}
use Rattle.fits_value.specs.Number.{value_of, signed, IsExactly, Denotes}
use Rattle.fits_value.proofs.NumberLemmas.{denotes_size}
use Rattle.fits_value.proofs.NumberSaysLemmas.{number_said}
use Rattle.fits_value.proofs.number.denotes.Goals as goal

pub returns-then-has_sign : goal.returns-then-has_sign
returns-then-has_sign c =
    let front = c.in-Some.decimal.front.now in
    let back = c.in-Some.decimal.back.now in
    let power = signed c.in-Some.decimal.is_lowered (value_of c.in-Some.decimal.exponent.now) in
    let d = denotes_size c.args.text.now c.in-Some.decimal.is_negative front back power c.args.number c.in-Some.ensures.found in
    let sign = subst (λ (z : ℤ). IsTrue c.has_sign.result ↔ (z ≡ signed c.in-Some.decimal.is_negative (unsigned_abs z))) (to_z-of_z w128 c.args.number c.ranges.number) c.has_sign.ensures in
    let size : c.unsigned_abs-size.result ≡ unsigned_abs c.args.number = c.unsigned_abs-size.ensures.value ∙ ap unsigned_abs (to_z-of_z w128 c.args.number c.ranges.number) in
    let exact : IsTrue c.equals.result ↔ Denotes c.args.text.now c.args.number = (
      λ e. d.0 (sign.0 c.if-has_sign.true, subst (λ (n : ℕ). IsExactly front back power n) size (c.equals.ensures.0 e)),
      λ e. c.equals.ensures.1 (subst (λ (n : ℕ). IsExactly front back power n) (sym size) (d.1 e).1),
    ) in
    record { value = number_said c.args.text.now c.args.number c.equals.result exact; exact = exact }

pub returns-else-has_sign : goal.returns-else-has_sign
returns-else-has_sign c =
    let power = signed c.in-Some.decimal.is_lowered (value_of c.in-Some.decimal.exponent.now) in
    let d = denotes_size c.args.text.now c.in-Some.decimal.is_negative c.in-Some.decimal.front.now c.in-Some.decimal.back.now power c.args.number c.in-Some.ensures.found in
    let sign = subst (λ (z : ℤ). IsTrue c.has_sign.result ↔ (z ≡ signed c.in-Some.decimal.is_negative (unsigned_abs z))) (to_z-of_z w128 c.args.number c.ranges.number) c.has_sign.ensures in
    let exact : IsTrue c.has_sign.result ↔ Denotes c.args.text.now c.args.number =
    (λ e. absurd (false≢true (sym c.if-has_sign.false ∙ e)), λ e. absurd (false≢true (sym c.if-has_sign.false ∙ sign.1 (d.1 e).0))) in
    record { value = number_said c.args.text.now c.args.number c.has_sign.result exact; exact = exact }

pub returns-in-None : goal.returns-in-None
returns-in-None c =
    let exact : IsTrue false ↔ Denotes c.args.text.now c.args.number = (λ e. absurd (false≢true e), λ w. absurd (c.in-None.ensures.none w.negative w.front w.back w.power w.spelled)) in
    record { value = number_said c.args.text.now c.args.number false exact; exact = exact }
