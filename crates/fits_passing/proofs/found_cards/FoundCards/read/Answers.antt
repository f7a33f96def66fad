use Rattle.std.proofs.Common.{ap}
use Rattle.fits_card.specs.Header.{Header}
use Rattle.fits_passing.specs.Findings.{AreFoundCards}
use Rattle.fits_passing.proofs.PassingLemmas.{summed_header, summed_keeps}
use Rattle.fits_passing.proofs.found_cards.FoundCards.read.Goals as goal

pub found_cards_of-requires-clause-whole : goal.found_cards_of-requires-clause-whole
found_cards_of-requires-clause-whole g c = summed_header _ _ _ c.in_ok-head.field-0.head.cards.header c.in_ok-head.field-0.head.shape c.in_ok-head.field-0.unit c.in_ok-head.ensures.ok

pub found_cards_of-requires-clause-described : goal.found_cards_of-requires-clause-described
found_cards_of-requires-clause-described g c = c.in_ok-head.ensures.ok.kept.described

pub found_cards_of-requires-clause-layout : goal.found_cards_of-requires-clause-layout
found_cards_of-requires-clause-layout g c = c.in_ok-head.ensures.ok.kept.layout

pub returns-in-Ok-clause-ok : goal.returns-in-Ok-clause-ok
returns-in-Ok-clause-ok g c =
    let it = c.in-Ok.it in
    let found = c.in-Ok.ensures in
    let head = c.in_ok-head.field-0.head in
    let summed = c.in_ok-head.ensures.ok in
    summed_keeps (AreFoundCards it.found.whole it.found.of_cards.items it.found.name it.cards.header.cards) _ _ _ head.cards.header head.shape c.in_ok-head.field-0.unit summed (record {
      found = record { shape = head.shape; described = summed.kept.described; codes = found.whole; cards = found.cards; called = found.name };
      cards_are = ap (λ (h : Header). h.cards) found.header;
    })
