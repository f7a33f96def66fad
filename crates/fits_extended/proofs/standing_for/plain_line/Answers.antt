use Rattle.fits_extended.proofs.StillLemmas.{still_more}
use Rattle.fits_extended.proofs.standing_for.plain_line.Goals as goal

pub returns-in_default-clause-stays : goal.returns-in_default-clause-stays
returns-in_default-clause-stays g c = still_more c.numbered.ensures.stays c.said_in.ensures.stays

pub returns-in_err-stands-clause-stays : goal.returns-in_err-stands-clause-stays
returns-in_err-stands-clause-stays g c = still_more c.numbered.ensures.stays c.said_in-2.ensures.stays

pub returns-in-Itself-clause-stays : goal.returns-in-Itself-clause-stays
returns-in-Itself-clause-stays g c = still_more c.numbered.ensures.stays c.said_in-2.ensures.stays

pub returns-in_default-2-clause-stays : goal.returns-in_default-2-clause-stays
returns-in_default-2-clause-stays g c = still_more c.numbered.ensures.stays c.said_in-2.ensures.stays
