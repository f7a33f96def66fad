use Rattle.std.proofs.Common.{◌≡◌, [], arith, sym, tests, ◌∙◌}
use Rattle.std.proofs.lemmas.List.{nil_from_length}
use Rattle.fits_header.specs.Findings.{card_findings}
use Rattle.fits_header.proofs.FindingLemmas.{none_counted}
use Rattle.fits_header.proofs.header.Header.findings.Goals as goal

-- nothing was found, and that is kept
pub invariant_of-self-then-is_empty : goal.invariant_of-self-then-is_empty
invariant_of-self-then-is_empty c =
    let kept = c.self.invariant in
    let cards = c.self.inside.cards.header.cards in
    let surveyed = c.survey.ensures.found cards kept.notes kept.index kept.found in
    let empty : c.in_ok-found.found.items ≡ [] = nil_from_length c.in_ok-found.found.items (grind (arith, tests)) in
    let found : c.in_ok-found.found.items ≡ card_findings c.self.inside.shape cards = c.in_ok-found.ensures cards kept.notes (c.deref.ensures.value ∙ surveyed) in
    record {
      described = kept.described;
      index = kept.index;
      notes = kept.notes;
      size = kept.size;
      found = λ some. surveyed;
      whole = λ some. c.survey.ensures.len ∙ kept.size;
      counted = none_counted c.self.inside.shape cards (sym found ∙ empty);
      few_codes = omega arith;
      room_of_index = kept.room_of_index;
      room_of_notes = kept.room_of_notes;
      room_of_surroundings = omega (arith, kept.room_of_surroundings, c.survey.ensures.room);
    }
