use Rattle.std.proofs.Common.{arith}
use Rattle.fits_card.proofs.HeaderLemmas.{whole-moved}
use Rattle.fits_card.proofs.card_list.CardList.move_card.Goals as goal

pub invariant_of-self : goal.invariant_of-self
invariant_of-self c = record {
  card_room = omega arith;
  whole = whole-moved _ _ c.args.from c.args.to c.len.result _ c.self.invariant.whole c.move_item.ensures.items (omega arith) c.blank.ensures;
}

pub returns-clause-whole : goal.returns-clause-whole
returns-clause-whole c = whole-moved _ _ c.args.from c.args.to c.len.result _ c.self.invariant.whole c.move_item.ensures.items (omega arith) c.blank.ensures
