use Rattle.std.proofs.Common.{◌≡◌, ◌<◌, ◌∙◌, [], length, get_or, arith, rules}
use Rattle.std.proofs.lemmas.List.{get_or_default}
use Rattle.fits_diff.proofs.MatchLemmas.{card_is}
use Rattle.fits_patch.proofs.HeaderLemmas.{one_alike}
use Rattle.fits_patch.proofs.headers.are_same.Goals as goal

pub loop-index-preserved : goal.loop-index-preserved
loop-index-preserved c =
    let it = c.loop-index.invariant in
    let xs = c.args.cards.now in
    let ys = c.args.others.now.header.cards in
    let k = c.loop-index.index in
    let within : k < length xs = search rules in
    let size : length xs ≡ length ys = search rules in
    let here : c.index-cards-index.result ≡ get_or xs k [] = c.index-cards-index.is ∙ get_or_default xs k c.index-cards-index.result [] within in
    record {
      alike = one_alike xs ys k c.index-cards-index.result c.card-other.result c.is_card.result within size here
          (card_is ys k c.card-other.result (omega (arith, within, size)) (rw it.same at c.card-other.ensures.value)) c.is_card.ensures c.if-not-is_card.false it.alike;
      same = rw c.card-other.ensures.work it.same;
    }
