-- Said, so that a body that breaks it is refused at once.
use Rattle.std.proofs.Common.{rules}
use Rattle.fits_rules.proofs.LeadLemmas.{lead_steps}
use Rattle.fits_rules.proofs.leads.lead.Goals as goal

pub loop-index-init : goal.loop-index-init
loop-index-init c = search (rules, lead_steps)

pub returns-clause-work : goal.returns-clause-work
returns-clause-work c = search (rules, lead_steps)
