use Rattle.std.proofs.Common.{◌≡◌, ◌+◌, ◌-◌, ◌++◌, ap, length, length-append, replicate, vec_len, arith}
use Rattle.std.proofs.lemmas.List.{length-replicate}
use Rattle.fits_card.proofs.SlottedLemmas.{items_count, room-before, room-after}
use Rattle.fits_card.proofs.slotted.Slotted.make_room.Goals as goal

pub splice-requires-clause-to : goal.splice-requires-clause-to
splice-requires-clause-to g c = omega (arith, rw (← c.self.view_is) at c.requires.to, items_count c.self.inside.items.items c.self.inside.order.slots _ c.self.invariant.slots (omega (arith, c.self.invariant.count, c.self.inside.items.ok)))

pub splice-requires-clause-room : goal.splice-requires-clause-room
splice-requires-clause-room g c = omega (arith, rw (← c.self.view_is) at c.requires.room, c.self.invariant.fits)

pub fill_up-requires-clause-room : goal.fill_up-requires-clause-room
fill_up-requires-clause-room g c = omega (arith, rw (← c.self.view_is) at c.requires.room, c.self.invariant.fits, c.self.invariant.count, c.self.inside.items.ok, c.splice.ensures.count, c.splice.ensures.len, c.count.ensures)

pub returns-clause-before : goal.returns-clause-before
returns-clause-before g c =
    let items = c.self.inside.items.items in
    let size : c.self.inside.order.count ≡ length items = omega (arith, c.self.invariant.count, c.self.inside.items.ok) in
    let more = replicate (c.count.result - vec_len c.self.inside.items) c.args.filler in
    let many : c.splice.new.self.count ≡ length (items ++ more)
    = omega (arith, length-append items more, length-replicate (c.count.result - vec_len c.self.inside.items) c.args.filler, c.self.inside.items.ok, c.self.invariant.count, c.splice.ensures.count, c.count.ensures) in
    rw (c.fill_up.ensures.items, ← c.self.view_is)
    (room-before items c.self.inside.order.slots _ c.self.invariant.slots size c.args.filler more c.splice.new.self.slots _ c.splice.ensures.each many (c.args.place - 1) c.splice.ensures.before)

pub returns-clause-after : goal.returns-clause-after
returns-clause-after g c =
    let items = c.self.inside.items.items in
    let size : c.self.inside.order.count ≡ length items = omega (arith, c.self.invariant.count, c.self.inside.items.ok) in
    let more = replicate (c.count.result - vec_len c.self.inside.items) c.args.filler in
    let many : c.splice.new.self.count ≡ length (items ++ more)
    = omega (arith, length-append items more, length-replicate (c.count.result - vec_len c.self.inside.items) c.args.filler, c.self.inside.items.ok, c.self.invariant.count, c.splice.ensures.count, c.count.ensures) in
    rw (c.fill_up.ensures.items, ← c.self.view_is)
    (room-after items c.self.inside.order.slots _ c.self.invariant.slots size c.args.filler more c.splice.new.self.slots _ c.splice.ensures.each many (c.args.place - 1 + c.args.coming) (c.args.place - 1 + c.args.removed) c.splice.ensures.after)

pub returns-clause-len : goal.returns-clause-len
returns-clause-len g c =
    let size : c.self.inside.order.count ≡ length c.self.inside.items.items = omega (arith, c.self.invariant.count, c.self.inside.items.ok) in
    let many : c.splice.new.self.count ≡ length c.fill_up.new.items.items = omega (arith, c.fill_up.ensures.len, c.fill_up.new.items.ok, c.count.ensures) in
    omega (
      arith,
      c.splice.ensures.len,
      ap (λ state. length state.items) c.self.view_is,
      items_count c.self.inside.items.items c.self.inside.order.slots _ c.self.invariant.slots size,
      items_count c.fill_up.new.items.items c.splice.new.self.slots _ c.splice.ensures.each many,
    )

pub returns-clause-room : goal.returns-clause-room
returns-clause-room g c = omega (arith, ap (λ state. state.room) c.self.view_is, c.self.invariant.fits, c.self.invariant.count, c.self.inside.items.ok, c.splice.ensures.len, c.splice.ensures.room, c.fill_up.ensures.room)
