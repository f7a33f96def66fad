use Rattle.std.proofs.Common.{◌≡◌, ◌∙◌, arith, length}
use Rattle.fits_card.proofs.OrderLemmas.{more_slots, front_stays, grown}
use Rattle.fits_card.proofs.order.grow.Goals as goal

pub loop-slot-preserved : goal.loop-slot-preserved
loop-slot-preserved c =
    let kept = c.loop-slot.invariant in
    let size : c.loop-slot.slot ≡ length c.loop-slot.slots.items = omega (arith, kept.len, c.loop-slot.slots.ok) in
    record {
      slots = rw c.put_slot.ensures.items (more_slots c.loop-slot.slots.items c.loop-slot.slot kept.slots);
      len = omega (arith, c.put_slot.ensures.len, kept.len);
      front = rw c.put_slot.ensures.items (front_stays c.loop-slot.slots.items _ c.loop-slot.slot _ kept.grown (grown c.loop-slot.slots.items c.loop-slot.slot c.loop-slot.slot size) ∙ kept.front);
      grown = omega (arith, kept.grown);
      high = omega (arith, kept.high, c.loop-slot-test.true);
      room = omega (arith, kept.room, c.put_slot.ensures.room);
    }

pub returns-clause-len : goal.returns-clause-len
returns-clause-len c = omega (arith, c.loop-slot.invariant.len, c.loop-slot.invariant.grown, c.loop-slot.invariant.high, c.loop-slot-test.false)
