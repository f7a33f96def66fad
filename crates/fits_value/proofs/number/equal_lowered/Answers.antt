use Rattle.std.proofs.Common.{arith, sym, ◌∙◌, ◌-◌, length}
use Rattle.std.proofs.lemmas.Bool.{false≢true}
use Rattle.fits_value.specs.Number.{value_of}
use Rattle.fits_value.proofs.DigitLemmas.{moved_left, too_low}
use Rattle.fits_value.proofs.number.equal_lowered.Goals as goal

pub returns-in_default : goal.returns-in_default
returns-in_default c = (
  λ e. absurd (false≢true e),
  λ e. absurd (too_low c.args.front.now c.args.back.now c.args.number (value_of c.args.exponent.now) c.in_default.ensures.large c.requires.some c.requires.front c.requires.back e),
)

pub returns-then-are_both_zeros : goal.returns-then-are_both_zeros
returns-then-are_both_zeros c =
    let moved = moved_left c.args.front.now c.split_at.result.0.now c.split_at.result.1.now c.args.back.now (length c.args.front.now - c.in-Some.places) (value_of c.args.exponent.now) c.args.number
    c.split_at.ensures.front c.split_at.ensures.back (omega (arith, c.in-Some.ensures.within, c.in-Some.ensures.value)) c.requires.front c.requires.back in
    (λ e. moved.0 (c.stand_for.ensures.0 e, c.are_both_zeros.ensures.0 c.if-are_both_zeros.true), λ e. c.stand_for.ensures.1 (moved.1 e).0)

pub returns-else-are_both_zeros : goal.returns-else-are_both_zeros
returns-else-are_both_zeros c =
    let moved = moved_left c.args.front.now c.split_at.result.0.now c.split_at.result.1.now c.args.back.now (length c.args.front.now - c.in-Some.places) (value_of c.args.exponent.now) c.args.number
    c.split_at.ensures.front c.split_at.ensures.back (omega (arith, c.in-Some.ensures.within, c.in-Some.ensures.value)) c.requires.front c.requires.back in
    (λ e. absurd (false≢true (sym c.if-are_both_zeros.false ∙ e)), λ e. absurd (false≢true (sym c.if-are_both_zeros.false ∙ c.are_both_zeros.ensures.1 (moved.1 e).1)))
