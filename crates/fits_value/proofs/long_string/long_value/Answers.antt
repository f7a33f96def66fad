use Rattle.std.proofs.Common.{arith, ap, sym, ◌∙◌, ◌≡◌, Some, drop}
use Rattle.fits_card.specs.CardList.{CardStore}
use Rattle.fits_value.proofs.ReadLemmas.{Said}
use Rattle.fits_value.specs.Says.{links_of, links_after, whole_string, card_says}
use Rattle.fits_value.specs.declared.value.Value.{Value}
use Rattle.fits_value.specs.declared.value.Value.TheVariants.{Str}
use Rattle.fits_value.proofs.ChainingLemmas.{Link, card_string-said}
use Rattle.fits_value.proofs.PlaceLemmas.{place_valueless, place_silent, place_speaks, place_none, place_string, place_other, chain_length-string}
use Rattle.fits_value.proofs.long_string.long_value.Goals as goal

pub returns-in_err-value-clause-firm : goal.returns-in_err-value-clause-firm
returns-in_err-value-clause-firm c = λ e.
    let none = place_none c.args.cards.now.header.cards c.args.place c.card_at-card.result _ c.card_at-card.ensures.at e in
    absurd (let firm = c.in_err-value.ensures.firm none in (cc))

pub returns-in_default-clause-value : goal.returns-in_default-clause-value
returns-in_default-clause-value c =
    sym (place_silent c.args.cards.now.header.cards c.args.place c.card_at-card.result _ c.card_at-card.ensures.at (sym c.in_ok-value.ensures.value ∙ c.in_default.is))

pub returns-then-not-has_value-clause-value : goal.returns-then-not-has_value-clause-value
returns-then-not-has_value-clause-value c =
    let said = sym c.in_ok-value.ensures.value ∙ c.in-Some.is in
    sym (place_valueless c.args.cards.now.header.cards c.args.place c.card_at-card.result _ c.card_at-card.ensures.at (sym c.has_value.ensures ∙ c.if-not-has_value.true) ∙ said)

pub returns-then-not-has_value-clause-firm : goal.returns-then-not-has_value-clause-firm
returns-then-not-has_value-clause-firm c = λ e.
    absurd (place_speaks c.args.cards.now.header.cards c.args.place c.card_at-card.result _ c.card_at-card.ensures.at _ (sym c.in_ok-value.ensures.value ∙ c.in-Some.is) e)

pub returns-in_err-text-in-Str-clause-firm : goal.returns-in_err-text-in-Str-clause-firm
returns-in_err-text-in-Str-clause-firm c = λ e.
    absurd (place_speaks c.args.cards.now.header.cards c.args.place c.card_at-card.result _ c.card_at-card.ensures.at _ (sym c.in_ok-value.ensures.value ∙ c.in-Some.is) e)

pub returns-in_ok-text-in-Str-clause-firm : goal.returns-in_ok-text-in-Str-clause-firm
returns-in_ok-text-in-Str-clause-firm c = λ e.
    absurd (place_speaks c.args.cards.now.header.cards c.args.place c.card_at-card.result _ c.card_at-card.ensures.at _ (sym c.in_ok-value.ensures.value ∙ c.in-Some.is) e)

pub returns-in_err-text-in-Str-clause-work : goal.returns-in_err-text-in-Str-clause-work
returns-in_err-text-in-Str-clause-work c =
    let said : card_says c.card_at-card.result ≡ Some (Str c.in-Str.piece, c.in-Some.comment) = sym c.in_ok-value.ensures.value ∙ (c.in-Some.is ∙ ap (λ (x : Value). let y : Said = (x, c.in-Some.comment) in Some y) c.in-Str.is) in
    let same = ap (λ (x : CardStore). links_after c.in-Str.piece (links_of (drop c.args.place x.header.cards))) c.card_at-card.ensures.work in
    let header = ap (λ (x : CardStore). x.header) c.card_at-card.ensures.work in
    let reads = ap (λ (x : CardStore). x.reads) c.card_at-card.ensures.work in
    let length = chain_length-string c.args.cards.now.header.cards c.args.place c.card_at-card.result _ c.card_at-card.ensures.at c.in-Str.piece (sym c.has_value.ensures ∙ c.if-not-has_value.false) (card_string-said c.card_at-card.result c.in-Str.piece c.in-Some.comment said) in
    record {
      header = c.chain_at.ensures.work.header ∙ header;
      room = c.chain_at.ensures.work.room ∙ ap (λ (x : CardStore). x.room) c.card_at-card.ensures.work;
      least = omega (arith, reads, c.chain_at.ensures.work.least);
      most = omega (arith, length, same, reads, c.chain_at.ensures.work.most);
    }

pub returns-in_ok-text-in-Str-clause-work : goal.returns-in_ok-text-in-Str-clause-work
returns-in_ok-text-in-Str-clause-work c =
    let said : card_says c.card_at-card.result ≡ Some (Str c.in-Str.piece, c.in-Some.comment) = sym c.in_ok-value.ensures.value ∙ (c.in-Some.is ∙ ap (λ (x : Value). let y : Said = (x, c.in-Some.comment) in Some y) c.in-Str.is) in
    let same = ap (λ (x : CardStore). links_after c.in-Str.piece (links_of (drop c.args.place x.header.cards))) c.card_at-card.ensures.work in
    let header = ap (λ (x : CardStore). x.header) c.card_at-card.ensures.work in
    let reads = ap (λ (x : CardStore). x.reads) c.card_at-card.ensures.work in
    let length = chain_length-string c.args.cards.now.header.cards c.args.place c.card_at-card.result _ c.card_at-card.ensures.at c.in-Str.piece (sym c.has_value.ensures ∙ c.if-not-has_value.false) (card_string-said c.card_at-card.result c.in-Str.piece c.in-Some.comment said) in
    record {
      header = c.chain_at.ensures.work.header ∙ header;
      room = c.chain_at.ensures.work.room ∙ ap (λ (x : CardStore). x.room) c.card_at-card.ensures.work;
      least = omega (arith, reads, c.chain_at.ensures.work.least);
      most = omega (arith, length, same, reads, c.chain_at.ensures.work.most);
    }

pub returns-in_ok-text-in-Str-clause-value : goal.returns-in_ok-text-in-Str-clause-value
returns-in_ok-text-in-Str-clause-value c =
    let said : card_says c.card_at-card.result ≡ Some (Str c.in-Str.piece, c.in-Some.comment) = sym c.in_ok-value.ensures.value ∙ (c.in-Some.is ∙ ap (λ (x : Value). let y : Said = (x, c.in-Some.comment) in Some y) c.in-Str.is) in
    let same = ap (λ (x : CardStore). whole_string c.in-Str.piece c.in-Some.comment (drop c.args.place x.header.cards)) c.card_at-card.ensures.work in
    ap (λ (x : Link). let y : Said = (Str x.0, x.1) in Some y) (c.in_ok-text-in-Str.ensures.value ∙ same)
    ∙ sym (place_string c.args.cards.now.header.cards c.args.place c.card_at-card.result _ c.card_at-card.ensures.at c.in-Str.piece c.in-Some.comment (sym c.has_value.ensures ∙ c.if-not-has_value.false) said)

pub returns-in_default-value-clause-value : goal.returns-in_default-value-clause-value
returns-in_default-value-clause-value c =
    sym (place_other c.args.cards.now.header.cards c.args.place c.card_at-card.result _ c.card_at-card.ensures.at c.in-Some.value c.in-Some.comment (sym c.has_value.ensures ∙ c.if-not-has_value.false)
    (sym c.in_ok-value.ensures.value ∙ c.in-Some.is) c.in_default-value.not-Str)

pub returns-in_default-value-clause-firm : goal.returns-in_default-value-clause-firm
returns-in_default-value-clause-firm c = λ e.
    absurd (place_speaks c.args.cards.now.header.cards c.args.place c.card_at-card.result _ c.card_at-card.ensures.at _ (sym c.in_ok-value.ensures.value ∙ c.in-Some.is) e)
