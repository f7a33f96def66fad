-- Said, so that a body that breaks it is refused at once.
use Rattle.std.proofs.Common.{rules}
use Rattle.fits_header.proofs.TurnLemmas.{splice_steps}
use Rattle.fits_header.proofs.leads.lead_spliced.Goals as goal

pub returns-in-Some-clause-value : goal.returns-in-Some-clause-value
returns-in-Some-clause-value c = search (rules, splice_steps)

pub returns-in-Some-lead_of-clause-value : goal.returns-in-Some-lead_of-clause-value
returns-in-Some-lead_of-clause-value c = search (rules, splice_steps)

pub returns-clause-value : goal.returns-clause-value
returns-clause-value c = search (rules, splice_steps)
