use Rattle.std.proofs.Common.{◌≡◌, drop}
use Rattle.fits_rules.specs.Lead.{lead_card}
use Rattle.fits_header.proofs.leads.lead_of.Given as goal

abbrev pub invariant-loop-i : goal.invariant-loop-i
invariant-loop-i l = lead_card (drop l.i l.cards) l.name ≡ lead_card l.cards l.name
