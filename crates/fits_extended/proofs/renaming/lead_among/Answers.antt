use Rattle.std.proofs.Common.{◌≡◌, ◌∙◌, ap}
use Rattle.fits_session.specs.Marked.{Marked}
use Rattle.fits_session.specs.Session.{file_of}
use Rattle.fits_extended.proofs.LeadLemmas.{lead_after, lead_here, lead_none}
use Rattle.fits_extended.proofs.StillLemmas.{still_more}
use Rattle.fits_extended.proofs.renaming.lead_among.Goals as goal

pub returns-in-Some-valued_card-clause-value : goal.returns-in-Some-valued_card-clause-value
returns-in-Some-valued_card-clause-value g c =
    let inv = c.places.invariant in
    lead_here (file_of c.args.session.now) (file_of c.places.session) c.args.hdu c.in-Some.place c.in-Some-valued_card.card c.args.places.now c.places.rest.now c.in-Some.after.now
    inv.found c.in-Some.ensures.some (ap (λ (m : Marked). m.file) inv.same) c.in-Some-valued_card.ensures.some

pub places-preserved : goal.places-preserved
places-preserved g c =
    let inv = c.places.invariant in
    record {
      found = lead_after (file_of c.args.session.now) (file_of c.places.session) c.args.hdu c.in-Some.place c.args.places.now c.places.rest.now c.in-Some.after.now
          inv.found c.in-Some.ensures.some (ap (λ (m : Marked). m.file) inv.same) c.in_default-valued_card.ensures.none;
      same = c.valued_card.ensures.same ∙ inv.same;
      stays = still_more inv.stays c.valued_card.ensures.stays;
      absences = c.valued_card.ensures.absences ∙ inv.absences;
    }

pub returns-clause-value : goal.returns-clause-value
returns-clause-value g c = lead_none (file_of c.args.session.now) c.args.hdu c.args.places.now c.places.rest.now c.places.invariant.found c.in_default.ensures.none

pub returns-in-Some-valued_card-clause-stays : goal.returns-in-Some-valued_card-clause-stays
returns-in-Some-valued_card-clause-stays g c = still_more c.places.invariant.stays c.valued_card.ensures.stays
