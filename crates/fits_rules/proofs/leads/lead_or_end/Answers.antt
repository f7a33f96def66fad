use Rattle.std.proofs.Common.{arith}
use Rattle.fits_rules.proofs.LeadCardLemmas.{lead_reads}
use Rattle.fits_rules.proofs.leads.lead_or_end.Goals as goal

pub returns-clause-work : goal.returns-clause-work
returns-clause-work c =
    let work = c.lead.ensures.work in
    let few = lead_reads c.args.cards.now.header.cards c.args.name.now c.lead.result c.lead.ensures.value in
    record { header = work.header; room = work.room; least = work.least; most = omega arith }
