use Rattle.std.proofs.Common.{◌≤◌, ◌-◌, ap, length, arith}
use Rattle.fits_header.proofs.TotalLemmas.{small_after, total-among-le, total_after, total_in-few}
use Rattle.fits_header.proofs.notes.Notes.splice.Goals as goal

pub overflow_sub-self : goal.overflow_sub-self
overflow_sub-self c = omega (arith, c.self.invariant.total, c.total_among-gone.ensures.value, total-among-le c.args.removed (c.args.place - 1) c.self.inside.notes.items)

pub overflow_add-self : goal.overflow_add-self
overflow_add-self c =
    let low : c.args.place - 1 ≤ length c.self.inside.notes.items = omega (arith, rw (← c.self.view_is) at c.requires.to) in
    let small = small_after c.self.inside.notes.items c.splice_notes.new.notes.items c.args.cards.now c.args.place c.args.removed c.splice_notes.ensures.notes low c.self.invariant.each c.total_among-come.ensures.each in
    omega (
      arith,
      c.self.invariant.total,
      c.total_among-gone.ensures.value,
      c.total_among-come.ensures.value,
      total_after c.self.inside.notes.items c.splice_notes.new.notes.items c.args.cards.now c.args.place c.args.removed c.splice_notes.ensures.notes low,
      total_in-few c.splice_notes.new.notes.items small,
      c.splice_notes.ensures.len,
      c.len-few.ensures.value,
      c.len-few.ensures.few,
      ap (λ state. length state.items) c.self.view_is,
      c.requires.room,
    )

pub invariant_of-self : goal.invariant_of-self
invariant_of-self c =
    let low : c.args.place - 1 ≤ length c.self.inside.notes.items = omega (arith, rw (← c.self.view_is) at c.requires.to) in
    record {
      total = omega (
        arith,
        c.self.invariant.total,
        c.total_among-gone.ensures.value,
        c.total_among-come.ensures.value,
        total-among-le c.args.removed (c.args.place - 1) c.self.inside.notes.items,
        total_after c.self.inside.notes.items c.splice_notes.new.notes.items c.args.cards.now c.args.place c.args.removed c.splice_notes.ensures.notes low,
      );
      each = small_after c.self.inside.notes.items c.splice_notes.new.notes.items c.args.cards.now c.args.place c.args.removed c.splice_notes.ensures.notes low c.self.invariant.each c.total_among-come.ensures.each;
    }
