use Rattle.fits_value.specs.Number.{value_of, signed}
use Rattle.fits_value.proofs.DigitLemmas.{iff_join}
use Rattle.fits_value.proofs.NumberLemmas.{exact_zero}
use Rattle.fits_value.proofs.number.equals.Goals as goal

pub returns-then-number-eq0 : goal.returns-then-number-eq0
returns-then-number-eq0 c =
    let decimal = c.args.decimal.now in
    iff_join c.are_both_zeros.ensures (exact_zero decimal.front.now decimal.back.now (signed decimal.is_lowered (value_of decimal.exponent.now)) c.args.number c.if-number-eq0.true)
