use Rattle.std.proofs.Common.{◌≡◌, ◌<◌, ◌∙◌, ℕ, ap, set, length, arith}
use Rattle.fits_card.specs.Order.{items_at}
use Rattle.fits_card.proofs.SlottedLemmas.{items_count, written}
use Rattle.fits_card.proofs.slotted.Slotted.set.Goals as goal

pub slot-requires : goal.slot-requires
slot-requires g c = omega (arith, rw (← c.self.view_is) at c.requires, items_count c.self.inside.items.items c.self.inside.order.slots _ c.self.invariant.slots (omega (arith, c.self.invariant.count, c.self.inside.items.ok)))

pub index_mut-requires : goal.index_mut-requires
index_mut-requires g c =
    let within : c.args.index < length c.self.inside.order.slots = omega (arith, rw (← c.self.view_is) at c.requires, items_count c.self.inside.items.items c.self.inside.order.slots _ c.self.invariant.slots (omega (arith, c.self.invariant.count, c.self.inside.items.ok))) in
    omega (arith, c.slot.ensures, c.self.invariant.slots.below c.args.index 0 within, c.self.invariant.count)

pub returns-clause-items : goal.returns-clause-items
returns-clause-items g c =
    let size : c.self.inside.order.count ≡ length c.self.inside.items.items = omega (arith, c.self.invariant.count, c.self.inside.items.ok) in
    let within : c.args.index < length c.self.inside.order.slots = omega (arith, rw (← c.self.view_is) at c.requires, items_count c.self.inside.items.items c.self.inside.order.slots _ c.self.invariant.slots size) in
    rw (← c.self.view_is)
    (ap (λ (slot : ℕ). items_at (set c.self.inside.items.items slot c.args.item) c.self.inside.order.slots) c.slot.ensures
    ∙ written c.self.inside.items.items c.self.inside.order.slots _ c.self.invariant.slots size c.args.index c.args.item within)
