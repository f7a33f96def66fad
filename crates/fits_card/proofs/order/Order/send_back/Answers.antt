use Rattle.std.proofs.Common.{◌≤◌, ◌+◌, arith, length, length-take-le}
use Rattle.fits_card.proofs.OrderLemmas.{gone_in_use, turned_slots}
use Rattle.fits_card.proofs.order.Order.send_back.Goals as goal

pub invariant_of-self : goal.invariant_of-self
invariant_of-self c = record {
  within = omega (arith, c.send_last.ensures.len, c.self.invariant.within);
  slots = rw (c.send_last.ensures.items, c.send_last.ensures.len) (turned_slots c.self.inside.slots.items c.self.inside.used c.args.from c.args.count _ c.self.invariant.slots);
}

pub returns-clause-slots : goal.returns-clause-slots
returns-clause-slots c =
    let within : c.self.inside.used ≤ length c.self.inside.slots.items = omega (arith, c.self.invariant.within, c.self.inside.slots.ok) in
    let fits : c.args.from + c.args.count ≤ c.self.inside.used = omega (arith, rw (← c.self.view_is) at c.requires, length-take-le c.self.inside.used c.self.inside.slots.items within) in
    rw (c.send_last.ensures.items, ← c.self.view_is) (gone_in_use c.self.inside.slots.items c.args.from c.args.count c.self.inside.used fits within)
