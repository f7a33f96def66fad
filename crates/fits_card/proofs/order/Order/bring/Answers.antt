use Rattle.std.proofs.Common.{◌≤◌, ◌+◌, ◌∙◌, ap, drop, refl, arith, length, length-take-le}
use Rattle.fits_card.proofs.OrderLemmas.{came_in_use, front_slots, front_stays, turned_slots}
use Rattle.fits_card.proofs.order.Order.bring.Goals as goal

pub invariant_of-self : goal.invariant_of-self
invariant_of-self c = record {
  within = omega (arith, c.bring_last.ensures.len, c.grow.ensures.len);
  slots = rw (c.bring_last.ensures.items, c.bring_last.ensures.len) (turned_slots c.grow.new.slots.items _ c.args.from _ _ c.grow.ensures.slots);
}

pub returns-clause-after : goal.returns-clause-after
returns-clause-after c =
    let used = c.self.inside.used in
    let within : used ≤ length c.self.inside.slots.items = omega (arith, c.self.invariant.within, c.self.inside.slots.ok) in
    let low : c.args.from ≤ used = omega (arith, rw (← c.self.view_is) at c.requires.from, length-take-le used c.self.inside.slots.items within) in
    let many : used + c.args.count ≤ length c.grow.new.slots.items = omega (arith, c.grow.ensures.len, c.grow.new.slots.ok) in
    rw (c.bring_last.ensures.items, ← c.self.view_is)
    (came_in_use c.grow.new.slots.items c.args.from c.args.count used (used + c.args.count) low refl many
    ∙ ap (drop c.args.from) (front_stays c.self.inside.slots.items c.grow.new.slots.items _ used c.self.invariant.within c.grow.ensures.front))

pub returns-clause-each : goal.returns-clause-each
returns-clause-each c = front_slots c.bring_last.new.slots.items (c.self.inside.used + c.args.count) _ (invariant_of-self c).slots
