use Rattle.fits_c.proofs.GivenLemmas.{gives}
use Rattle.fits_c.proofs.running.fitsed_sum.Goals as goal

pub returns : goal.returns
returns c = gives _ c.tell.result _ _ _ c.tell.ensures c.give.ensures
