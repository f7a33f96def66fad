use Rattle.std.proofs.Common.{◌-◌, ◌<◌, get_or, arith}
use Rattle.fits_script.proofs.WordLemmas.{below_30_digits, room_for_digit_30}
use Rattle.fits_script.proofs.value_words.read_size.Goals as goal

pub overflow_mul-size : goal.overflow_mul-size
overflow_mul-size c =
    omega (arith, room_for_digit_30 c.loop-byte.size 0 c.loop-byte.byte-index c.loop-byte.invariant.small (omega arith) (omega arith))

pub overflow_add-size : goal.overflow_add-size
overflow_add-size c =
    let digit : get_or c.args.digits.now c.loop-byte.byte-index 0 - 48 < 10 = omega arith in
    omega (arith, room_for_digit_30 c.loop-byte.size _ c.loop-byte.byte-index c.loop-byte.invariant.small (omega arith) digit)

pub returns-clause-small : goal.returns-clause-small
returns-clause-small c = below_30_digits c.loop-byte.size c.loop-byte.byte-index c.loop-byte.invariant.small (omega (arith, c.loop-byte.auto.byte-index-end, c.requires))
