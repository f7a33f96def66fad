use Rattle.fits_rules.proofs.KeepingLemmas.{splice_keeps}
use Rattle.fits_rules.proofs.laws.later_splices_keep_shapes.Goals as goal

pub returns : goal.returns
returns c = splice_keeps
