use Rattle.fits_card.proofs.HeaderReadingLemmas.{pushed}
use Rattle.fits_card.proofs.header_reading.push_cards.Goals as goal

pub loop-k-preserved : goal.loop-k-preserved
loop-k-preserved c = pushed _ _ _ _ _ _ c.loop-k.invariant c.in_ok-push.ensures.items c.card_at.ensures
