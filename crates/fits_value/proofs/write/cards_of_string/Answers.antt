use Rattle.std.proofs.Common.{◌≡◌, ℕ, ◌<◌, List, [], ◌∷◌, ◌++◌, length, take, drop, Option, None, arith, ap}
use Rattle.fits_value.specs.Spelling.{doubled}
use Rattle.fits_value.specs.Written.{fitting, quoted, card_of, continue_lead, cards_of_string}
use Rattle.fits_value.proofs.PieceLemmas.{piece_step}
use Rattle.fits_value.proofs.WriteLemmas.{taken, piece_long, last_long}
use Rattle.fits_value.proofs.write.cards_of_string.Goals as goal

-- one piece more
kept : (lead rest front back card : List ℕ) (comment : Option (List ℕ)) (cards more whole : List (List ℕ)) (k left : ℕ) → k ≡ fitting 67 rest → front ≡ take k rest → back ≡ drop k rest
    → card ≡ card_of lead (quoted (front ++ 38 ∷ [])) None → more ≡ cards ++ card ∷ [] → 68 < left → left ≡ length (doubled rest) → cards ++ cards_of_string lead (length rest) rest comment ≡ whole
    → more ++ cards_of_string continue_lead (length back) back comment ≡ whole
kept lead rest front back card comment cards more whole k left e f g m p h i inv =
    rw (p, m, f, g, e) (piece_step lead rest comment cards whole (omega arith) inv)

pub overflow_sub-left : goal.overflow_sub-left
overflow_sub-left c =
    let t = taken c.pieces.rest.now c.split_at.result.0.now c.piece_len.result c.pieces.left c.doubled_len-left-in-pieces.result c.piece_len.ensures.value c.split_at.ensures.front c.pieces-test.true c.pieces.invariant.left_is c.doubled_len-left-in-pieces.ensures in
    omega (arith, t.1)

pub pieces-smaller : goal.pieces-smaller
pieces-smaller c =
    let t = taken c.pieces.rest.now c.split_at.result.0.now c.piece_len.result c.pieces.left c.doubled_len-left-in-pieces.result c.piece_len.ensures.value c.split_at.ensures.front c.pieces-test.true c.pieces.invariant.left_is c.doubled_len-left-in-pieces.ensures in
    let h : 68 < c.pieces.left = c.pieces-test.true in
    omega (arith, t.0, t.1, h)

pub pieces-preserved : goal.pieces-preserved
pieces-preserved c =
    let t = taken c.pieces.rest.now c.split_at.result.0.now c.piece_len.result c.pieces.left c.doubled_len-left-in-pieces.result c.piece_len.ensures.value c.split_at.ensures.front c.pieces-test.true c.pieces.invariant.left_is c.doubled_len-left-in-pieces.ensures in
    let back : length (doubled c.split_at.result.1.now) ≡ length (doubled (drop c.piece_len.result c.pieces.rest.now)) = ap (λ (x : List ℕ). length (doubled x)) c.split_at.ensures.back in
    record {
      so_far = kept c.pieces.lead c.pieces.rest.now c.split_at.result.0.now c.split_at.result.1.now c.in-Some.card c.args.comment.now c.pieces.cards.items c.push.new.cards.items
          (cards_of_string c.args.lead (length c.args.characters.now) c.args.characters.now c.args.comment.now) c.piece_len.result c.pieces.left
          c.piece_len.ensures.value c.split_at.ensures.front c.split_at.ensures.back c.in-Some.ensures.some c.in_ok-push.ensures c.pieces-test.true c.pieces.invariant.left_is c.pieces.invariant.so_far;
      left_is = omega (arith, t.1, back);
    }

pub returns-in_default-clause-bad : goal.returns-in_default-clause-bad
returns-in_default-clause-bad c = λ _.
    piece_long c.pieces.lead c.pieces.rest.now c.split_at.result.0.now c.args.comment.now c.pieces.cards.items (cards_of_string c.args.lead (length c.args.characters.now) c.args.characters.now c.args.comment.now) c.piece_len.result c.pieces.left
    c.piece_len.ensures.value c.split_at.ensures.front c.pieces-test.true c.pieces.invariant.left_is c.pieces.invariant.so_far c.in_default.ensures.none

pub returns-in_default-string_card-clause-bad : goal.returns-in_default-string_card-clause-bad
returns-in_default-string_card-clause-bad c = λ _.
    last_long c.pieces.lead c.pieces.rest.now c.args.comment.now c.pieces.cards.items (cards_of_string c.args.lead (length c.args.characters.now) c.args.characters.now c.args.comment.now) c.pieces.left
    c.pieces-test.false c.pieces.invariant.left_is c.pieces.invariant.so_far c.in_default-string_card.ensures.none
