use Rattle.std.proofs.Common.{◌≡◌, take}
use Rattle.std.specs.List.{list_any}
use Rattle.fits_table.specs.Leads.{is_past}
use Rattle.fits_table.proofs.marking.has_past.Given as goal

abbrev pub invariant-loop-i : goal.invariant-loop-i
invariant-loop-i g l = record {
  same : g.H.HeaderCards.cards l.cards ≡ g.H.HeaderCards.cards l.fn.cards;
  value : l.found ≡ list_any (is_past l.fields) (take l.i (g.H.HeaderCards.cards l.fn.cards));
}
