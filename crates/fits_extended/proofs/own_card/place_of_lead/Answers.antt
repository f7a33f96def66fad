use Rattle.std.proofs.Common.{◌≤◌, sym, ◌∙◌, arith}
use Rattle.fits_session.specs.Session.{file_of}
use Rattle.fits_extended.proofs.OwnCardLemmas.{lead_gone, lead_within}
use Rattle.fits_extended.proofs.own_card.place_of_lead.Goals as goal

pub returns-in_default-clause-ok : goal.returns-in_default-clause-ok
returns-in_default-clause-ok g c = lead_gone (file_of c.args.session.now) c.args.hdu c.args.name.now c.in_default.field-0 (sym c.in_default.ensures.value)

pub returns-in-Some-clause-low : goal.returns-in-Some-clause-low
returns-in-Some-clause-low g c =
    let within : c.in-Some.place ≤ c.in-Ok._count = lead_within (file_of c.args.session.now) c.args.hdu c.in-Some.place c.in-Ok._count c.in-Some.field-0-1 c.args.name.now (sym c.in-Ok.ensures.value) (sym c.in-Some.is ∙ c.in_ok-place.ensures.ok) in
    omega (arith, within, c.in-Ok.ensures.few)
