use Rattle.std.proofs.Common.{◌≡◌, ◌<◌, ◌∙◌, ℕ, ap, get_or, length, arith}
use Rattle.fits_card.proofs.SlottedLemmas.{items_count, item_there}
use Rattle.fits_card.proofs.slotted.Slotted.at.Goals as goal

pub slot-requires : goal.slot-requires
slot-requires g c = omega (arith, rw (← c.self.view_is) at c.requires, items_count c.self.inside.items.items c.self.inside.order.slots _ c.self.invariant.slots (omega (arith, c.self.invariant.count, c.self.inside.items.ok)))

pub index-requires : goal.index-requires
index-requires g c =
    let within : c.args.index < length c.self.inside.order.slots = omega (arith, rw (← c.self.view_is) at c.requires, items_count c.self.inside.items.items c.self.inside.order.slots _ c.self.invariant.slots (omega (arith, c.self.invariant.count, c.self.inside.items.ok))) in
    omega (arith, c.slot.ensures, c.self.invariant.slots.below c.args.index 0 within, c.self.invariant.count)

pub returns : goal.returns
returns g c =
    let size : c.self.inside.order.count ≡ length c.self.inside.items.items = omega (arith, c.self.invariant.count, c.self.inside.items.ok) in
    let within : c.args.index < length c.self.inside.order.slots = omega (arith, rw (← c.self.view_is) at c.requires, items_count c.self.inside.items.items c.self.inside.order.slots _ c.self.invariant.slots size) in
    rw (← c.self.view_is)
    (c.index.ensures
    ∙ (ap (λ (slot : ℕ). get_or c.self.inside.items.items slot c.index.result.now) c.slot.ensures
    ∙ item_there c.self.inside.items.items c.self.inside.order.slots _ c.self.invariant.slots size c.args.index c.index.result.now within))
