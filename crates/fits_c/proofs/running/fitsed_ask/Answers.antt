use Rattle.fits_c.proofs.GivenLemmas.{gives}
use Rattle.fits_c.proofs.running.fitsed_ask.Goals as goal

pub returns : goal.returns
returns c = gives _ c.edit.result _ _ _ c.edit.ensures c.give.ensures
