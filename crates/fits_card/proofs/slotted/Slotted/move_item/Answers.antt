use Rattle.std.proofs.Common.{◌≡◌, ◌≤◌, ap, length, arith}
use Rattle.fits_card.proofs.SlottedLemmas.{items_count, moved_items}
use Rattle.fits_card.proofs.slotted.Slotted.move_item.Goals as goal

pub move_slot-requires-clause-from_last : goal.move_slot-requires-clause-from_last
move_slot-requires-clause-from_last g c = omega (arith, rw (← c.self.view_is) at c.requires.from_last, items_count c.self.inside.items.items c.self.inside.order.slots _ c.self.invariant.slots (omega (arith, c.self.invariant.count, c.self.inside.items.ok)))

pub move_slot-requires-clause-to_last : goal.move_slot-requires-clause-to_last
move_slot-requires-clause-to_last g c = omega (arith, rw (← c.self.view_is) at c.requires.to_last, items_count c.self.inside.items.items c.self.inside.order.slots _ c.self.invariant.slots (omega (arith, c.self.invariant.count, c.self.inside.items.ok)))

pub returns-clause-items : goal.returns-clause-items
returns-clause-items g c =
    let items = c.self.inside.items.items in
    let slots = c.self.inside.order.slots in
    let size : c.self.inside.order.count ≡ length items = omega (arith, c.self.invariant.count, c.self.inside.items.ok) in
    let within : c.args.from ≤ length slots = omega (arith, rw (← c.self.view_is) at c.requires.from_last, items_count items slots _ c.self.invariant.slots size) in
    let each = rw c.move_slot.ensures.count at c.move_slot.ensures.each in
    rw (← c.self.view_is)
    (moved_items items slots c.move_slot.new.self.slots _ c.args.from c.args.to c.self.invariant.slots size each c.requires.from_first within c.move_slot.ensures.slots)

pub returns-clause-len : goal.returns-clause-len
returns-clause-len g c =
    let size : c.self.inside.order.count ≡ length c.self.inside.items.items = omega (arith, c.self.invariant.count, c.self.inside.items.ok) in
    omega (
      arith,
      c.move_slot.ensures.len,
      ap (λ state. length state.items) c.self.view_is,
      items_count c.self.inside.items.items c.self.inside.order.slots _ c.self.invariant.slots size,
      items_count c.self.inside.items.items c.move_slot.new.self.slots _ c.move_slot.ensures.each (omega (arith, size, c.move_slot.ensures.count)),
    )
