use Rattle.std.proofs.Common.{◌≡◌, ◌≤◌, ◌<◌, ◌+◌, ◌-◌, ◌∙◌, ℕ, ap, take, arith, length, length-take-le}
use Rattle.fits_card.specs.Change.{moved}
use Rattle.fits_card.proofs.OrderLemmas.{front_slots, moved_in_use, turned_slots}
use Rattle.fits_card.proofs.order.Order.move_slot.Goals as goal

pub invariant_of-self : goal.invariant_of-self
invariant_of-self c =
    let sent = rw (← c.send_last.ensures.items, ← c.send_last.ensures.len) at (turned_slots c.self.inside.slots.items c.self.inside.used (c.args.from - 1) 1 _ c.self.invariant.slots) in
    record {
      within = omega (arith, c.bring_last.ensures.len, c.send_last.ensures.len, c.self.invariant.within);
      slots = rw (c.bring_last.ensures.items, c.bring_last.ensures.len) (turned_slots c.send_last.new.slots.items c.self.inside.used (c.args.to - 1) _ _ sent);
    }

pub returns-clause-slots : goal.returns-clause-slots
returns-clause-slots c =
    let used = c.self.inside.used in
    let within : used ≤ length c.self.inside.slots.items = omega (arith, c.self.invariant.within, c.self.inside.slots.ok) in
    let size = length-take-le used c.self.inside.slots.items within in
    let from : c.args.from - 1 + 1 ≡ c.args.from = omega (arith, c.requires.from_first) in
    let to : c.args.to - 1 + 1 ≡ c.args.to = omega (arith, c.requires.to_first) in
    let first : c.args.from - 1 < used = omega (arith, c.requires.from_first, rw (← c.self.view_is) at c.requires.from_last, size) in
    let high : c.args.to - 1 < used = omega (arith, c.requires.to_first, rw (← c.self.view_is) at c.requires.to_last, size) in
    rw (c.bring_last.ensures.items, ← c.self.view_is)
    (moved_in_use c.self.inside.slots.items c.send_last.new.slots.items (c.args.from - 1) (c.args.to - 1) used first high within c.send_last.ensures.items
    ∙ (ap (λ (place : ℕ). moved (take used c.self.inside.slots.items) place (c.args.to - 1 + 1)) from
    ∙ ap (λ (place : ℕ). moved (take used c.self.inside.slots.items) c.args.from place) to))

pub returns-clause-each : goal.returns-clause-each
returns-clause-each c = front_slots c.bring_last.new.slots.items c.self.inside.used _ (invariant_of-self c).slots
