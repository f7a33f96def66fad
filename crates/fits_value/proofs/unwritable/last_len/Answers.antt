use Rattle.std.proofs.Common.{◌≡◌, ℕ, List, ◌<◌, length, drop, arith, ap}
use Rattle.fits_value.specs.Spelling.{doubled}
use Rattle.fits_value.specs.Unwritable.{last_piece}
use Rattle.fits_value.proofs.RoomLemmas.{last_step, last_stop}
use Rattle.fits_value.proofs.WriteLemmas.{taken}
use Rattle.fits_value.proofs.unwritable.last_len.Goals as goal

pub overflow_sub-left : goal.overflow_sub-left
overflow_sub-left c =
    let t = taken c.pieces.rest.now c.split_at.result.0.now c.piece_len.result c.pieces.left c.doubled_len-left-in-pieces.result c.piece_len.ensures.value c.split_at.ensures.front c.pieces-test.true c.pieces.invariant.left_is c.doubled_len-left-in-pieces.ensures in
    omega (arith, t.1)

pub pieces-smaller : goal.pieces-smaller
pieces-smaller c =
    let t = taken c.pieces.rest.now c.split_at.result.0.now c.piece_len.result c.pieces.left c.doubled_len-left-in-pieces.result c.piece_len.ensures.value c.split_at.ensures.front c.pieces-test.true c.pieces.invariant.left_is c.doubled_len-left-in-pieces.ensures in
    let h : 68 < c.pieces.left = c.pieces-test.true in
    omega (arith, t.0, t.1, h)

pub pieces-preserved : goal.pieces-preserved
pieces-preserved c =
    let t = taken c.pieces.rest.now c.split_at.result.0.now c.piece_len.result c.pieces.left c.doubled_len-left-in-pieces.result c.piece_len.ensures.value c.split_at.ensures.front c.pieces-test.true c.pieces.invariant.left_is c.doubled_len-left-in-pieces.ensures in
    let back : length (doubled c.split_at.result.1.now) ≡ length (doubled (drop c.piece_len.result c.pieces.rest.now)) = ap (λ (x : List ℕ). length (doubled x)) c.split_at.ensures.back in
    record {
      so_far = last_step c.pieces.rest.now c.split_at.result.1.now c.piece_len.result c.pieces.left (length (doubled (last_piece (length c.args.characters.now) c.args.characters.now))) c.piece_len.ensures.value c.split_at.ensures.back c.pieces-test.true c.pieces.invariant.left_is c.pieces.invariant.so_far;
      left_is = omega (arith, t.1, back);
    }

pub returns-clause-value : goal.returns-clause-value
returns-clause-value c = last_stop c.pieces.rest.now c.pieces.left (length (doubled (last_piece (length c.args.characters.now) c.args.characters.now))) c.pieces-test.false c.pieces.invariant.left_is c.pieces.invariant.so_far
