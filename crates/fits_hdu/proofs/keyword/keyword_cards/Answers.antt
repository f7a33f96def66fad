use Rattle.std.proofs.Common.{sym}
use Rattle.fits_rules.proofs.LeadCardLemmas.{lead_from, lead_to}
use Rattle.fits_hdu.proofs.KeywordLemmas.{keyword_at, lead_reads}
use Rattle.fits_hdu.proofs.keyword.keyword_cards.Goals as goal

pub link_count-links-requires : goal.link_count-links-requires
link_count-links-requires c = record { from = lead_from _ _ _ c.in_ok-place.ensures; to = lead_to _ _ _ c.in_ok-place.ensures }

pub returns-clause-value : goal.returns-clause-value
returns-clause-value c = rw c.link_count-links.ensures.value (sym (keyword_at _ _ c.in_ok-place.place c.in_ok-place.ensures))

pub returns-clause-work : goal.returns-clause-work
returns-clause-work c = rw (lead_reads _ _ c.in_ok-place.place c.in_ok-place.ensures) c.link_count-links.ensures.work
