use Rattle.std.proofs.Common.{sym, ap, ◌∙◌, arith, []}
use Rattle.std.proofs.lemmas.Grind.{common_steps}
use Rattle.fits_card.specs.CardList.{CardStore}
use Rattle.fits_passing.specs.Headers.{read_cards}
use Rattle.fits_tell.specs.Asked.{number_asked}
use Rattle.fits_keys.specs.Keys.{cards_in}
use Rattle.fits_keys.proofs.FieldLemmas.{cards_by_number, cards_past, cards_there}
use Rattle.fits_keys.proofs.keys.push_header.Goals as goal

-- no header has the number 0
pub returns-then-number-eq0 : goal.returns-then-number-eq0
returns-then-number-eq0 c =
    let before = read_cards c.args.headers.now.items in
    let after = read_cards c.number_asked.new.headers.items in
    rw (cards_by_number before after c.in_ok-number.number (number_asked before c.args.choice.now.hdu) [] c.in_ok-number.ensures.same c.in_ok-number.ensures.value (ap (cards_in after) c.if-number-eq0.true), ← c.deref.ensures.value) c.push_empty.ensures

-- the header isn't there
pub returns-then-number-len : goal.returns-then-number-len
returns-then-number-len c =
    let before = read_cards c.args.headers.now.items in
    let after = read_cards c.number_asked.new.headers.items in
    rw (cards_by_number before after c.in_ok-number.number (number_asked before c.args.choice.now.hdu) [] c.in_ok-number.ensures.same c.in_ok-number.ensures.value (cards_past c.number_asked.new.headers.items c.in_ok-number.number (grind (arith, common_steps))), ← c.deref-then-number-len.ensures.value)
    c.push_empty-then-number-len.ensures

pub returns : goal.returns
returns c =
    let before = read_cards c.args.headers.now.items in
    let after = read_cards c.number_asked.new.headers.items in
    let one = c.index_mut.result.now in
    let there = cards_there c.number_asked.new.headers.items c.in_ok-number.number one (grind (arith, common_steps)) (grind (arith, common_steps)) ∙ ap (λ (it : CardStore). it.header.cards) (sym c.index_mut.ensures.value) in
    rw (cards_by_number before after c.in_ok-number.number (number_asked before c.args.choice.now.hdu) one.header.cards c.in_ok-number.ensures.same c.in_ok-number.ensures.value there, ← c.deref-2.ensures.value) c.push_fields.ensures
