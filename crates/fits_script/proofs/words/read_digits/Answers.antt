use Rattle.std.proofs.Common.{◌-◌, ◌<◌, get_or, arith}
use Rattle.fits_script.proofs.WordLemmas.{room_for_digit}
use Rattle.fits_script.proofs.words.read_digits.Goals as goal

pub overflow_mul-number : goal.overflow_mul-number
overflow_mul-number c =
    omega (arith, room_for_digit c.loop-byte.number 0 c.loop-byte.byte-index c.loop-byte.invariant.small (omega arith) (omega arith))

pub overflow_add-number : goal.overflow_add-number
overflow_add-number c =
    let digit : get_or c.args.digits.now c.loop-byte.byte-index 0 - 48 < 10 = omega arith in
    omega (arith, room_for_digit c.loop-byte.number _ c.loop-byte.byte-index c.loop-byte.invariant.small (omega arith) digit)
