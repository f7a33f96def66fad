use Rattle.std.proofs.Common.{arith}
use Rattle.fits_value.proofs.DigitLemmas.{over}
use Rattle.fits_value.proofs.number.append_digits.Goals as goal

pub returns-then-number-limit-clause-large : goal.returns-then-number-limit-clause-large
returns-then-number-limit-clause-large c = over c.args.start c.args.digits.now c.loop-digit.digit-index c.loop-digit.number c.args.limit c.loop-digit-test.true c.loop-digit.invariant.0 (omega arith)

pub returns-then-number-limit-2-clause-large : goal.returns-then-number-limit-2-clause-large
returns-then-number-limit-2-clause-large c = over c.args.start c.args.digits.now c.loop-digit.digit-index c.loop-digit.number c.args.limit c.loop-digit-test.true c.loop-digit.invariant.0 (omega arith)
