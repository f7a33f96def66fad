use Rattle.std.proofs.Common.{◌≡◌, ◌++◌, map}
use Rattle.fits_passing.specs.declared.found_cards.FoundCards.{FoundCards}
use Rattle.fits_passing.proofs.card_report.parted.Given as goal

abbrev pub invariant-loop-it : goal.invariant-loop-it
invariant-loop-it l = record {
  found : l.found.items ++ map (λ (it : FoundCards). it.found) l.it-iterator.rest.items ≡ map (λ (it : FoundCards). it.found) l.fn.kept.items;
  cards : l.cards.items ++ map (λ (it : FoundCards). it.cards) l.it-iterator.rest.items ≡ map (λ (it : FoundCards). it.cards) l.fn.kept.items;
}
