-- Said, so that a body that breaks it is refused at once.
use Rattle.std.proofs.Common.{arith, rules}
use Rattle.fits_header.proofs.HeaderLemmas.{kept_steps}
use Rattle.fits_header.proofs.header.Header.apply.Goals as goal

pub invariant_of-self : goal.invariant_of-self
invariant_of-self c = record {
  described = search (rules, kept_steps);
  index = search (rules, kept_steps);
  notes = search (rules, kept_steps);
  size = search (rules, kept_steps);
  found = grind (arith);
  whole = grind (arith);
  counted = rw (c.forget.ensures.uncounted) tt;
  few_codes = rw (c.forget.ensures.uncounted) tt;
  room_of_index = search (rules, kept_steps);
  room_of_notes = search (rules, kept_steps);
  room_of_surroundings = search (rules, kept_steps);
}
