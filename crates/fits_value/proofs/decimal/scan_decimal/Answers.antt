use Rattle.std.proofs.Common.{rules, ◌<◌, ◌+◌, length}
use Rattle.fits_value.proofs.NumberLemmas.{decimal_begins, begins_within}
use Rattle.fits_value.proofs.decimal.scan_decimal.Goals as goal

pub returns-clause-found : goal.returns-clause-found
returns-clause-found c =
    let some : 0 < length c.split_digits.result.0.now + length c.split_fraction.result.0.now = search rules in
    decimal_begins c.args.text.now c.split_sign-is_negative.result.1.now c.split_digits.result.0.now c.split_digits.result.1.now c.split_fraction.result.0.now c.split_fraction.result.1.now
    c.split_exponent-is_lowered.result.1.now c.split_exponent-is_lowered.result.2.now c.split_sign-is_negative.result.0 c.split_exponent-is_lowered.result.0
    c.split_sign-is_negative.ensures.sign c.split_sign-is_negative.ensures.rest c.split_digits.ensures.digits c.split_digits.ensures.rest c.split_fraction.ensures.digits c.split_fraction.ensures.rest
    c.split_exponent-is_lowered.ensures.sign c.split_exponent-is_lowered.ensures.digits c.split_exponent-is_lowered.ensures.rest some

pub returns-clause-within : goal.returns-clause-within
returns-clause-within c = begins_within c.args.text.now _ _ _ _ _ (returns-clause-found c)
