use Rattle.std.proofs.Common.{◌≡◌, drop}
use Rattle.fits_rules.specs.Lead.{lead_card}
use Rattle.fits_header.specs.Stretch.{cards_in_turn}
use Rattle.fits_header.proofs.leads.lead_in_turn.Given as goal

abbrev pub invariant-loop-i : goal.invariant-loop-i
invariant-loop-i l = record {
  same : l.cards ≡ l.fn.cards;
  rest : lead_card (cards_in_turn l.fn.cards.header.cards (drop l.i l.stretches)) l.name ≡ lead_card (cards_in_turn l.fn.cards.header.cards l.stretches) l.name;
}
