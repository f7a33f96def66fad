use Rattle.std.proofs.Common.{arith}
use Rattle.std.proofs.lemmas.Bool.{false≢true}
use Rattle.fits_value.proofs.DigitLemmas.{not_zero, digit_at}
use Rattle.fits_value.proofs.number.are_zeros.Goals as goal

pub returns-then-digit-ne48 : goal.returns-then-digit-ne48
returns-then-digit-ne48 c = (
  λ e. absurd (false≢true e),
  λ e. absurd (not_zero c.args.digits.now c.loop-digit.digit-index c.loop-digit-test.true c.requires
      (omega (arith, (digit_at c.args.digits.now c.loop-digit.digit-index c.requires c.loop-digit-test.true).0, c.if-digit-ne48.true)) e),
)
