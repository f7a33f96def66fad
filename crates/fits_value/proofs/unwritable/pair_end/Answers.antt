use Rattle.std.proofs.Common.{◌+◌, length, arith, refl}
use Rattle.fits_value.proofs.RoomLemmas.{pair_goes}
use Rattle.fits_value.proofs.unwritable.pair_end.Goals as goal
use Rattle.fits_value.proofs.unwritable.pair_end.Goals.{then-real-gt-NUMBER_ROOM-via-then-real-gt-NUMBER_ROOM, then-real-gt-NUMBER_ROOM-via-else-real-gt-NUMBER_ROOM+then-imaginary-gt-NUMBER_ROOM}

pub returns-then-real-gt-NUMBER_ROOM-clause-none : goal.returns-then-real-gt-NUMBER_ROOM-clause-none
returns-then-real-gt-NUMBER_ROOM-clause-none c =
    let is = pair_goes c.args.real.now c.args.imaginary.now (length c.args.real.now + length c.args.imaginary.now + 4) refl in
    elim c.then-real-gt-NUMBER_ROOM.branch [
      | then-real-gt-NUMBER_ROOM-via-then-real-gt-NUMBER_ROOM w ↦ omega (arith, is)
      | then-real-gt-NUMBER_ROOM-via-else-real-gt-NUMBER_ROOM+then-imaginary-gt-NUMBER_ROOM w ↦ omega (arith, is)
    ]

pub returns-clause-some : goal.returns-clause-some
returns-clause-some c =
    rw (pair_goes c.args.real.now c.args.imaginary.now (length c.args.real.now + length c.args.imaginary.now + 4) refl) c.spelling_end.ensures.some

pub returns-clause-none : goal.returns-clause-none
returns-clause-none c =
    rw (pair_goes c.args.real.now c.args.imaginary.now (length c.args.real.now + length c.args.imaginary.now + 4) refl) c.spelling_end.ensures.none
