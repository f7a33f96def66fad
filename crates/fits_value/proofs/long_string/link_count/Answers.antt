use Rattle.std.proofs.Common.{arith, ap, sym, ◌∙◌, drop}
use Rattle.fits_card.specs.CardList.{CardStore}
use Rattle.fits_value.specs.Says.{links_of, links_after}
use Rattle.fits_value.proofs.PlaceLemmas.{chain_length-string, chain_length-other, chain_length-valueless}
use Rattle.fits_value.proofs.long_string.link_count.Goals as goal

pub returns-then-not-has_value-clause-value : goal.returns-then-not-has_value-clause-value
returns-then-not-has_value-clause-value c =
    let none = chain_length-valueless c.args.cards.now.header.cards c.args.place c.card_at-card.result _ c.card_at-card.ensures.at (sym c.has_value.ensures ∙ c.if-not-has_value.true) in
    omega (arith, none)

pub returns-in_default-clause-value : goal.returns-in_default-clause-value
returns-in_default-clause-value c =
    let none = chain_length-other c.args.cards.now.header.cards c.args.place c.card_at-card.result _ c.card_at-card.ensures.at (sym c.card_string.ensures ∙ c.in_default.is) in
    omega (arith, none)

pub returns-clause-value : goal.returns-clause-value
returns-clause-value c =
    let same = ap (λ (x : CardStore). links_after c.in-Some.text (links_of (drop c.args.place x.header.cards))) c.card_at-card.ensures.work in
    let length = chain_length-string c.args.cards.now.header.cards c.args.place c.card_at-card.result _ c.card_at-card.ensures.at c.in-Some.text (sym c.has_value.ensures ∙ c.if-not-has_value.false) (sym c.card_string.ensures ∙ c.in-Some.is) in
    omega (arith, length, same, c.links_from.ensures.value)

pub returns-clause-work : goal.returns-clause-work
returns-clause-work c =
    let same = ap (λ (x : CardStore). links_after c.in-Some.text (links_of (drop c.args.place x.header.cards))) c.card_at-card.ensures.work in
    let header = ap (λ (x : CardStore). x.header) c.card_at-card.ensures.work in
    let reads = ap (λ (x : CardStore). x.reads) c.card_at-card.ensures.work in
    let length = chain_length-string c.args.cards.now.header.cards c.args.place c.card_at-card.result _ c.card_at-card.ensures.at c.in-Some.text (sym c.has_value.ensures ∙ c.if-not-has_value.false) (sym c.card_string.ensures ∙ c.in-Some.is) in
    record {
      header = c.links_from.ensures.work.header ∙ header;
      room = c.links_from.ensures.work.room ∙ ap (λ (x : CardStore). x.room) c.card_at-card.ensures.work;
      least = omega (arith, reads, c.links_from.ensures.work.least);
      most = omega (arith, length, same, reads, c.links_from.ensures.value, c.links_from.ensures.work.most);
    }
