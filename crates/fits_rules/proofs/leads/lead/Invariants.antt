use Rattle.fits_card.specs.CardList.{ReadsUpTo}
use Rattle.fits_rules.proofs.LeadLemmas.{NoneBefore}
use Rattle.fits_rules.proofs.leads.lead.Given as goal

abbrev pub invariant-loop-index : goal.invariant-loop-index
invariant-loop-index l = record {
  work : ReadsUpTo l.fn.cards l.cards l.index;
  none : NoneBefore l.fn.cards.header.cards l.name l.index;
}
