use Rattle.std.proofs.Common.{◌≡◌}
use Rattle.std.specs.List.{range_with_len}
use Rattle.fits_card.specs.Order.{AreSlots}
use Rattle.fits_card.proofs.order.Order.of.Given as goal

abbrev pub invariant-loop-slot : goal.invariant-loop-slot
invariant-loop-slot l = record {
  items : l.slots.items ≡ range_with_len 0 l.slot;
  slots : AreSlots l.slots.items l.slot;
  len : l.slots.len ≡ l.slot;
}
