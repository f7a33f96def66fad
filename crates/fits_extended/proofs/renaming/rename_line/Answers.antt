use Rattle.fits_extended.proofs.StillLemmas.{still_more}
use Rattle.fits_extended.proofs.renaming.rename_line.Goals as goal

pub returns-in_err-lead_of-clause-stays : goal.returns-in_err-lead_of-clause-stays
returns-in_err-lead_of-clause-stays g c = still_more c.lead_of.ensures.stays c.lead_of-2.ensures.stays

pub returns-in_err-card_line-in-None-clause-stays : goal.returns-in_err-card_line-in-None-clause-stays
returns-in_err-card_line-in-None-clause-stays g c = still_more c.lead_of.ensures.stays c.lead_of-2.ensures.stays

pub returns-in-Some-2-clause-stays : goal.returns-in-Some-2-clause-stays
returns-in-Some-2-clause-stays g c = still_more c.lead_of.ensures.stays c.lead_of-2.ensures.stays

pub returns-in_ok-card_line-in-None-clause-stays : goal.returns-in_ok-card_line-in-None-clause-stays
returns-in_ok-card_line-in-None-clause-stays g c = still_more c.lead_of.ensures.stays c.lead_of-2.ensures.stays
