use Rattle.fits_c.proofs.GivenLemmas.{gives}
use Rattle.fits_c.proofs.running.fitsed_cards.Goals as goal

pub returns : goal.returns
returns c = gives _ c.cards.result _ _ _ c.cards.ensures c.give.ensures
