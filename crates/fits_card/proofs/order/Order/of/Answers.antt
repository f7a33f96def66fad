use Rattle.std.proofs.Common.{◌∙◌, arith}
use Rattle.fits_card.proofs.OrderLemmas.{more_slots, one_further}
use Rattle.fits_card.proofs.order.Order.of.Goals as goal

pub loop-slot-preserved : goal.loop-slot-preserved
loop-slot-preserved c = record {
  items = c.in_ok-push.ensures.items ∙ one_further c.loop-slot.slot _ c.loop-slot.invariant.items;
  slots = rw c.in_ok-push.ensures.items (more_slots c.loop-slot.slots.items c.loop-slot.slot c.loop-slot.invariant.slots);
  len = omega (arith, c.in_ok-push.ensures.len, c.loop-slot.invariant.len);
}
