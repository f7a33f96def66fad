use Rattle.std.proofs.Common.{◌≡◌, ◌∙◌, ap, refl}
use Rattle.fits_card.specs.CardList.{CardStore}
use Rattle.fits_header.proofs.TurnLemmas.{turn-here, turn-more}
use Rattle.fits_header.proofs.leads.lead_in_turn.Goals as goal

pub returns-in-Some-clause-value : goal.returns-in-Some-clause-value
returns-in-Some-clause-value c =
    let same : c.loop-i.cards.header.cards ≡ c.args.cards.now.header.cards = ap (λ (store : CardStore). store.header.cards) c.loop-i.invariant.same in
    turn-here _ c.args.cards.now.header.cards c.args.stretches.now c.loop-i.i _ c.args.name.now c.in-Some.card _ same c.loop-i.invariant.rest c.loop-i-test.true c.in-Some.ensures.value

pub loop-i-preserved : goal.loop-i-preserved
loop-i-preserved c =
    let same : c.loop-i.cards.header.cards ≡ c.args.cards.now.header.cards = ap (λ (store : CardStore). store.header.cards) c.loop-i.invariant.same in
    record {
      same = c.in_default.ensures.none refl ∙ c.loop-i.invariant.same;
      rest = turn-more _ c.args.cards.now.header.cards c.args.stretches.now c.loop-i.i _ c.args.name.now _ same c.loop-i.invariant.rest c.loop-i-test.true c.in_default.ensures.value;
    }
