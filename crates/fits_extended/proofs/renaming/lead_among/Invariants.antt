use Rattle.std.proofs.Common.{◌≡◌, length}
use Rattle.fits_session.specs.Away.{LieStill}
use Rattle.fits_session.specs.Session.{absences_of, file_of, marked_of}
use Rattle.fits_extended.specs.Stands.{lead_among}
use Rattle.fits_extended.proofs.renaming.lead_among.Given as goal

abbrev pub invariant-places : goal.invariant-places
invariant-places g l = record {
  found : lead_among (file_of l.fn.session) l.hdu l.rest ≡ lead_among (file_of l.fn.session) l.hdu l.places;
  same : marked_of l.session ≡ marked_of l.fn.session;
  stays : LieStill l.fn.session.hdus l.session.hdus;
  absences : absences_of l.session.hdus ≡ absences_of l.fn.session.hdus;
}

abbrev pub decreases-places : goal.decreases-places
decreases-places g l = length l.rest
