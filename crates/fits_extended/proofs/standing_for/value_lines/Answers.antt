use Rattle.fits_extended.proofs.StillLemmas.{still_more}
use Rattle.fits_extended.proofs.standing_for.value_lines.Goals as goal

pub returns-clause-stays : goal.returns-clause-stays
returns-clause-stays g c = still_more c.said_of.ensures.stays c.set_lines.ensures.stays
