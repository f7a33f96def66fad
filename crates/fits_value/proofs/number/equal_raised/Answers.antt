use Rattle.std.proofs.Common.{arith, sym, ◌∙◌, ◌++◌, length}
use Rattle.std.proofs.lemmas.Bool.{false≢true}
use Rattle.fits_value.specs.Number.{value_of}
use Rattle.fits_value.proofs.DigitLemmas.{moved_right, too_high, below_most, raised_more, raised_none}
use Rattle.fits_value.proofs.number.equal_raised.Goals as goal

pub returns-in_default : goal.returns-in_default
returns-in_default c = (
  λ e. absurd (false≢true e),
  λ e. absurd (too_high (value_of (c.args.front.now ++ c.args.back.now)) c.args.number (value_of c.args.exponent.now) (length c.args.back.now) 39
      (below_most c.args.number c.requires.small) c.requires.some c.in_default.ensures.large e),
)

pub returns-then-are_zeros : goal.returns-then-are_zeros
returns-then-are_zeros c =
    let moved = moved_right c.args.front.now c.args.back.now c.split_at.result.0.now c.split_at.result.1.now c.in-Some.places (value_of c.args.exponent.now) c.args.number
    c.split_at.ensures.front c.split_at.ensures.back c.in-Some.ensures.value (omega (arith, c.in-Some.ensures.value)) c.requires.back in
    (λ e. moved.0 (c.stand_for.ensures.0 e, c.are_zeros.ensures.0 c.if-are_zeros.true), λ e. c.stand_for.ensures.1 (moved.1 e).0)

pub returns-else-are_zeros : goal.returns-else-are_zeros
returns-else-are_zeros c =
    let moved = moved_right c.args.front.now c.args.back.now c.split_at.result.0.now c.split_at.result.1.now c.in-Some.places (value_of c.args.exponent.now) c.args.number
    c.split_at.ensures.front c.split_at.ensures.back c.in-Some.ensures.value (omega (arith, c.in-Some.ensures.value)) c.requires.back in
    (λ e. absurd (false≢true (sym c.if-are_zeros.false ∙ e)), λ e. absurd (false≢true (sym c.if-are_zeros.false ∙ c.are_zeros.ensures.1 (moved.1 e).1)))

pub returns-in-Some-without_zeros : goal.returns-in-Some-without_zeros
returns-in-Some-without_zeros c =
    let more = raised_more (value_of (c.args.front.now ++ c.args.back.now)) c.in-Some-without_zeros.rest c.args.number c.in-Some.places (value_of c.args.exponent.now) (length c.args.back.now)
    c.in-Some.ensures.value c.if-places-back.false c.in-Some-without_zeros.ensures.value in
    (λ e. more.0 (c.stand_for-in-Some-without_zeros.ensures.0 e), λ e. c.stand_for-in-Some-without_zeros.ensures.1 (more.1 e))

pub returns-in-None : goal.returns-in-None
returns-in-None c = (
  λ e. absurd (false≢true e),
  λ e. absurd (raised_none (value_of (c.args.front.now ++ c.args.back.now)) c.args.number c.in-Some.places (value_of c.args.exponent.now) (length c.args.back.now)
      c.in-Some.ensures.value c.if-places-back.false c.in-None.ensures.none e),
)
