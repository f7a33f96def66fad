use Rattle.std.proofs.Common.{◌≡◌, ◌<◌, ◌+◌, ℕ, List, length, drop, ap, refl, arith}
use Rattle.fits_value.proofs.WriteLemmas.{taken, count_step, fit_step}
use Rattle.fits_value.specs.Spelling.{doubled}
use Rattle.fits_value.specs.Written.{cards_of_string, all_fit}
use Rattle.fits_value.proofs.write.card_count.Goals as goal

pub overflow_sub-left : goal.overflow_sub-left
overflow_sub-left c =
    let t = taken c.pieces.rest.now c.split_at.result.0.now c.piece_len.result c.pieces.left c.doubled_len-left-in-pieces.result c.piece_len.ensures.value c.split_at.ensures.front c.pieces-test.true c.pieces.invariant.left_is c.doubled_len-left-in-pieces.ensures in
    omega (arith, t.1)

pub pieces-smaller : goal.pieces-smaller
pieces-smaller c =
    let t = taken c.pieces.rest.now c.split_at.result.0.now c.piece_len.result c.pieces.left c.doubled_len-left-in-pieces.result c.piece_len.ensures.value c.split_at.ensures.front c.pieces-test.true c.pieces.invariant.left_is c.doubled_len-left-in-pieces.ensures in
    let h : 68 < c.pieces.left = c.pieces-test.true in
    omega (arith, t.0, t.1, h)

pub pieces-preserved : goal.pieces-preserved
pieces-preserved c =
    let t = taken c.pieces.rest.now c.split_at.result.0.now c.piece_len.result c.pieces.left c.doubled_len-left-in-pieces.result c.piece_len.ensures.value c.split_at.ensures.front c.pieces-test.true c.pieces.invariant.left_is c.doubled_len-left-in-pieces.ensures in
    let back : length (doubled c.split_at.result.1.now) ≡ length (doubled (drop c.piece_len.result c.pieces.rest.now)) = ap (λ (x : List ℕ). length (doubled x)) c.split_at.ensures.back in
    record {
      so_far = count_step c.pieces.lead c.pieces.rest.now c.split_at.result.1.now c.args.comment.now c.pieces.count c.piece_len.result c.pieces.left (1 + length (cards_of_string c.args.lead (length c.args.characters.now) c.args.characters.now c.args.comment.now))
          c.piece_len.ensures.value c.split_at.ensures.back c.pieces-test.true c.pieces.invariant.left_is c.pieces.invariant.so_far;
      fits = fit_step c.pieces.lead c.pieces.rest.now c.split_at.result.1.now c.args.comment.now c.piece_len.result c.pieces.left (all_fit (cards_of_string c.args.lead (length c.args.characters.now) c.args.characters.now c.args.comment.now))
          c.pieces.invariant.lead_size c.piece_len.ensures.value c.split_at.ensures.back c.pieces-test.true c.pieces.invariant.left_is c.pieces.invariant.fits;
      left_is = omega (arith, t.1, back);
      lead_size = refl;
      most = omega (arith, t.0, t.1, c.pieces.invariant.most);
    }
