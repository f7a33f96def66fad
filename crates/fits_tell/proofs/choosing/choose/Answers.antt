use Rattle.std.proofs.Common.{arith}
use Rattle.fits_tell.proofs.CardLemmas.{choice_more}
use Rattle.fits_tell.proofs.choosing.choose.Goals as goal

pub loop-index-preserved : goal.loop-index-preserved
loop-index-preserved c = (
  rw c.card-card.ensures.work c.loop-index.invariant.0,
  choice_more c.args.choice.now c.args.h c.loop-index.index c.loop-index.is_open c.loop-index.before _ _ _ c.args.cards.now.header.cards c.card-card.result c.loop-index.shown.items _ _ (omega (arith, c.loop-index-test.true, c.len-index-end.ensures.value)) (rw c.loop-index.invariant.0 at c.card-card.ensures.value) c.is_link-link.ensures c.goes_on-is_open.ensures c.is_shown-before.ensures c.in_ok-push_if.ensures c.loop-index.invariant.1,
)
