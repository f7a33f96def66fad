-- Said, so that a body that breaks it is refused at once.
use Rattle.std.proofs.Common.{ap, arith, rules, subst, sym}
use Rattle.fits_header.specs.Index.{IsIndexOf}
use Rattle.fits_header.proofs.HeaderLemmas.{notes_reshaped, reshape_steps}
use Rattle.fits_header.proofs.header.Header.reshape.Goals as goal

pub invariant_of-self : goal.invariant_of-self
invariant_of-self c = record {
  described = search (rules, reshape_steps);
  index = subst (IsIndexOf c.splice.new.self.entries) (sym (ap (λ h. h.cards) c.splice-3.ensures.header)) (c.splice.ensures.index c.self.inside.cards.header.cards c.self.invariant.index);
  notes = notes_reshaped c.self.inside.notes.items c.splice-2.new.self.items c.self.inside.cards.header.cards c.args.cards.now c.splice-3.new.self.header.cards 2 _ c.splice-2.ensures.notes c.self.invariant.notes (ap (λ h. h.cards) c.splice-3.ensures.header);
  size = search (rules, reshape_steps);
  found = grind (arith);
  whole = grind (arith);
  counted = rw (c.forget.ensures.uncounted) tt;
  few_codes = rw (c.forget.ensures.uncounted) tt;
  room_of_index = search (rules, reshape_steps);
  room_of_notes = search (rules, reshape_steps);
  room_of_surroundings = search (rules, reshape_steps);
}
