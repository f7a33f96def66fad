use Rattle.std.proofs.Common.{◌≡◌, ◌≤◌, max, take, vec_len, vec_capacity}
use Rattle.fits_card.specs.Order.{AreSlots}
use Rattle.fits_card.proofs.order.grow.Given as goal

abbrev pub invariant-loop-slot : goal.invariant-loop-slot
invariant-loop-slot l = record {
  slots : AreSlots l.slots.items l.slot;
  len : vec_len l.slots ≡ l.slot;
  front : take (vec_len l.initial.slots) l.slots.items ≡ l.initial.slots.items;
  grown : vec_len l.initial.slots ≤ l.slot;
  high : l.slot ≤ max (vec_len l.initial.slots) l.count;
  room : vec_capacity l.initial.slots ≤ vec_capacity l.slots;
}
