use Rattle.fits_extended.proofs.StillLemmas.{still_more}
use Rattle.fits_extended.proofs.naming.is_called.Goals as goal

pub returns-clause-stays : goal.returns-clause-stays
returns-clause-stays g c = still_more c.said_of.ensures.stays c.said_of-2.ensures.stays

pub returns-in_err-numbered-clause-stays : goal.returns-in_err-numbered-clause-stays
returns-in_err-numbered-clause-stays g c = still_more c.said_of.ensures.stays c.said_of-2.ensures.stays
