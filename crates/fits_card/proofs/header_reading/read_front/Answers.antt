use Rattle.std.proofs.Common.{◌≡◌, ◌*◌, ◌<◌, ◌≤◌, ◌++◌, ◌∙◌, length, take, refl, ap, subst, arith}
use Rattle.std.proofs.lemmas.List.{length-drop, length-take-le}
use Rattle.fits_card.specs.HeaderSteps.{pieces}
use Rattle.fits_card.proofs.HeaderReadingLemmas.{blocks_ended, blocks_more, inner_ended, inner_more, length-more, stops_cut}
use Rattle.fits_stream.proofs.IntakeLemmas.{takes_passed}
use Rattle.fits_stream.proofs.SightLemmas.{takes_fewer, takes_quiet, takes_then_fails, takes_then_quiet}
use Rattle.fits_card.proofs.header_reading.read_front.Goals as goal

-- the source ended, or the limit came, within a block
pub returns-then-ahead-lt-BLOCK_LEN-clause-ok : goal.returns-then-ahead-lt-BLOCK_LEN-clause-ok
returns-then-ahead-lt-BLOCK_LEN-clause-ok g c =
    let short : length c.hold.new.self.ahead < 2880 = omega (arith, ap length c.ahead-ahead.ensures) in
    stops_cut c.block.cards.items _ c.ahead-ahead.result.now _ _ _ c.block.invariant.taken c.in-Ok.ensures.ok (c.in-Ok.ensures.ends short) c.block.invariant.inner c.block.invariant.full short c.ahead-ahead.ensures c.in-Ok-cards_before_end.ensures

-- the cards before END
pub ended_list-requires-clause-inner : goal.ended_list-requires-clause-inner
ended_list-requires-clause-inner g c = inner_ended c.block.cards.items _ c.split_at.result.0.now _ c.block.invariant.inner c.in-Some.ensures.found c.in-Ok-push_cards.ensures

-- the last block is taken
pub returns-in-Some-clause-ok : goal.returns-in-Some-clause-ok
returns-in-Some-clause-ok g c =
    let block : c.split_at.result.0.now ≡ take 2880 c.hold.new.self.ahead = c.split_at.ensures.front ∙ ap (take 2880) c.ahead-ahead.ensures in (
      blocks_ended c.block.cards.items _ _ _ _ _ c.split_at.result.0.now c.in-Some.count c.in-Ok-ended_list.list.header c.block.invariant.taken c.in-Ok.ensures.ok
          (rw block (takes_passed _ _ 2880 refl c.pass.ensures.ahead c.pass.ensures.left)) c.in-Ok-push_cards.ensures c.in-Ok-ended_list.ensures.cards c.in-Ok-ended_list.ensures.ended,
      c.in-Ok-ended_list.ensures.whole,
      c.in-Ok-ended_list.ensures.unread,
    )

pub pass-requires-in-block : goal.pass-requires-in-block
pass-requires-in-block g c = omega (arith, ap length c.ahead-ahead.ensures)

-- a block is taken each time
pub block-smaller : goal.block-smaller
block-smaller g c =
    omega (arith, takes_fewer _ _ _ c.in-Ok.ensures.ok, ap length c.ahead-ahead.ensures, ap length c.pass-in-block.ensures.ahead, length-drop 2880 c.hold.new.self.ahead, c.pass-in-block.ensures.left)

-- a whole block without END
pub block-preserved : goal.block-preserved
block-preserved g c =
    let long : 80 * 36 ≤ length c.hold.new.self.ahead = omega (arith, ap length c.ahead-ahead.ensures) in
    let block : c.split_at.result.0.now ≡ take 2880 c.hold.new.self.ahead = c.split_at.ensures.front ∙ ap (take 2880) c.ahead-ahead.ensures in
    let size : length c.split_at.result.0.now ≡ 80 * 36 = ap length block ∙ length-take-le 2880 c.hold.new.self.ahead long in
    record {
      taken = blocks_more c.block.cards.items _ _ _ _ _ 36 c.block.invariant.taken c.in-Ok.ensures.ok (takes_passed _ _ 2880 refl c.pass-in-block.ensures.ahead c.pass-in-block.ensures.left) long
          (subst (λ b. c.push_cards-in-block.new.cards.items ≡ c.block.cards.items ++ pieces b 36) block c.in-Ok-push_cards-2.ensures);
      inner = inner_more c.block.cards.items _ c.split_at.result.0.now 36 c.block.invariant.inner (omega (arith, size)) c.in_default-end_place.ensures.none c.in-Ok-push_cards-2.ensures;
      full = omega (arith, length-more c.block.cards.items _ c.split_at.result.0.now 36 c.in-Ok-push_cards-2.ensures, c.block.invariant.full);
    }

-- a read failed
pub returns-in_default-clause-err : goal.returns-in_default-clause-err
returns-in_default-clause-err g c = takes_then_fails _ _ _ _ c.block.invariant.taken c.in_default.ensures.err

-- memory was refused
pub returns-in_default-cards_before_end-clause-err : goal.returns-in_default-cards_before_end-clause-err
returns-in_default-cards_before_end-clause-err g c = takes_then_quiet _ _ _ _ c.block.invariant.taken (takes_quiet _ _ _ c.in-Ok.ensures.ok)

pub returns-in_default-push_cards-clause-err : goal.returns-in_default-push_cards-clause-err
returns-in_default-push_cards-clause-err g c = takes_then_quiet _ _ _ _ c.block.invariant.taken (takes_quiet _ _ _ c.in-Ok.ensures.ok)

pub returns-in_default-ended_list-clause-err : goal.returns-in_default-ended_list-clause-err
returns-in_default-ended_list-clause-err g c = takes_then_quiet _ _ _ _ c.block.invariant.taken (takes_quiet _ _ _ c.in-Ok.ensures.ok)

pub returns-in_default-push_cards-2-clause-err : goal.returns-in_default-push_cards-2-clause-err
returns-in_default-push_cards-2-clause-err g c = takes_then_quiet _ _ _ _ c.block.invariant.taken (takes_quiet _ _ _ c.in-Ok.ensures.ok)
