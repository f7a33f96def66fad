use Rattle.std.proofs.Common.{take}
use Rattle.fits_card.specs.CardList.{ReadsUpTo}
use Rattle.fits_rules.specs.Lead.{AreLeads}
use Rattle.fits_rules.proofs.shape_leads.ShapeLeads.find.Given as goal

abbrev pub invariant-loop-index : goal.invariant-loop-index
invariant-loop-index l = record {
  work : ReadsUpTo l.fn.cards l.cards l.index;
  leads : AreLeads (take l.index l.fn.cards.header.cards) l.leads;
}
