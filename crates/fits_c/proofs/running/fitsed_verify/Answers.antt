use Rattle.fits_c.proofs.GivenLemmas.{gives}
use Rattle.fits_c.proofs.running.fitsed_verify.Goals as goal

pub returns : goal.returns
returns c = gives _ c.tell.result _ _ _ (rw c.report_by.ensures at c.tell.ensures) c.give.ensures
