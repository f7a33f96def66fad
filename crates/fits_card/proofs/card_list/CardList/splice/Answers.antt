use Rattle.std.proofs.Common.{arith, rules}
use Rattle.fits_card.proofs.HeaderLemmas.{whole-spliced}
use Rattle.fits_card.proofs.card_list.CardList.splice.Goals as goal

pub invariant_of-self : goal.invariant_of-self
invariant_of-self c = record {
  card_room = omega arith;
  whole = whole-spliced _ _ c.args.cards.now c.args.place c.args.removed c.len.result _ c.self.invariant.whole c.splice_cards.ensures.cards c.splice_cards.ensures.sizes c.requires.not_end (omega arith) c.blank.ensures;
}

-- said, so that a body that breaks it is refused at once
pub returns-clause-header : goal.returns-clause-header
returns-clause-header c = search rules

-- said, so that a body that breaks it is refused at once
pub returns-clause-whole : goal.returns-clause-whole
returns-clause-whole c = whole-spliced _ _ c.args.cards.now c.args.place c.args.removed c.len.result _ c.self.invariant.whole c.splice_cards.ensures.cards c.splice_cards.ensures.sizes c.requires.not_end (omega arith) c.blank.ensures
