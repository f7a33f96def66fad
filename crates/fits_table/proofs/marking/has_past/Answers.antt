use Rattle.std.proofs.Common.{◌≡◌, ◌<◌, ◌+◌, ◌||◌, length, Some, ap, ◌∙◌, rules}
use Rattle.fits_card.specs.Header.{card_at}
use Rattle.fits_table.proofs.MarkingLemmas.{past_more}
use Rattle.fits_table.proofs.marking.has_past.Goals as goal

pub loop-i-preserved : goal.loop-i-preserved
loop-i-preserved g c =
    let cards = g.H.HeaderCards.cards c.args.cards.now in
    let here : Some c.card_at.result ≡ card_at cards (c.loop-i.i + 1) = c.card_at.ensures.value ∙ ap (λ cs. card_at cs (c.loop-i.i + 1)) c.loop-i.invariant.same in
    let within : c.loop-i.i < length cards = search rules in
    record {
      same = c.card_at.ensures.same ∙ c.loop-i.invariant.same;
      value = ap (λ b. c.loop-i.found || b) c.is_past-found.ensures ∙ past_more c.args.fields cards c.loop-i.i c.card_at.result c.loop-i.found within here c.loop-i.invariant.value;
    }
