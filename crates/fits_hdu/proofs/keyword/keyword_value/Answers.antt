use Rattle.std.proofs.Common.{◌∙◌, sym}
use Rattle.std.proofs.lemmas.Result.{err_from_is_err_and}
use Rattle.fits_rules.proofs.LeadCardLemmas.{lead_from, lead_to}
use Rattle.fits_hdu.proofs.KeywordLemmas.{lead_not_silent, lead_reads, lead_says, lead_silent, no_lead}
use Rattle.fits_hdu.proofs.keyword.keyword_value.Goals as goal

pub long_value-requires : goal.long_value-requires
long_value-requires c = record { from = lead_from _ _ _ c.in-Some.ensures; to = lead_to _ _ _ c.in-Some.ensures }

pub returns-in_default-clause-err : goal.returns-in_default-clause-err
returns-in_default-clause-err c = no_lead _ _ c.in_default.ensures

pub returns-in-Some-2-clause-ok : goal.returns-in-Some-2-clause-ok
returns-in-Some-2-clause-ok c = lead_says _ _ c.in-Some.place _ c.in-Some.ensures (sym c.in-Some-2.is ∙ c.in_ok-said.ensures.value)

pub returns-in-None-clause-err : goal.returns-in-None-clause-err
returns-in-None-clause-err c = lead_silent _ _ c.in-Some.place c.in-Some.ensures (sym c.in-None.is ∙ c.in_ok-said.ensures.value)

-- memory was refused for a value that is there
pub returns-in_err-said-clause-err : goal.returns-in_err-said-clause-err
returns-in_err-said-clause-err c =
    let failed = err_from_is_err_and c.from_residual.result c.from_residual.ensures.1 in
    rw (failed.1, failed.2) (lead_not_silent _ _ c.in-Some.place c.in-Some.ensures (λ none. let no = c.in_err-said.ensures.firm none in cc))

pub returns-in-Some-2-clause-work : goal.returns-in-Some-2-clause-work
returns-in-Some-2-clause-work c = rw (lead_reads _ _ c.in-Some.place c.in-Some.ensures) c.long_value.ensures.work

pub returns-in-None-clause-work : goal.returns-in-None-clause-work
returns-in-None-clause-work c = rw (lead_reads _ _ c.in-Some.place c.in-Some.ensures) c.long_value.ensures.work

pub returns-in_err-said-clause-work : goal.returns-in_err-said-clause-work
returns-in_err-said-clause-work c = rw (lead_reads _ _ c.in-Some.place c.in-Some.ensures) c.long_value.ensures.work
