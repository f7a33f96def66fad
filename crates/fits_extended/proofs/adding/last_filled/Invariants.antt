use Rattle.std.proofs.Common.{◌≡◌, ◌≤◌}
use Rattle.fits_session.specs.Away.{LieStill}
use Rattle.fits_session.specs.Query.{card_in}
use Rattle.fits_session.specs.Session.{absences_of, file_of, marked_of}
use Rattle.fits_extended.specs.Stands.{is_blank_card, last_filled, last_without}
use Rattle.fits_extended.proofs.adding.last_filled.Given as goal

abbrev pub invariant-places : goal.invariant-places
invariant-places g l = record {
  found : last_without (λ place. is_blank_card (card_in (file_of l.fn.session) l.hdu place)) l.place ≡ last_filled (file_of l.fn.session) l.hdu l.count;
  within : l.place ≤ l.count;
  same : marked_of l.session ≡ marked_of l.fn.session;
  stays : LieStill l.fn.session.hdus l.session.hdus;
  absences : absences_of l.session.hdus ≡ absences_of l.fn.session.hdus;
}

abbrev pub decreases-places : goal.decreases-places
decreases-places g l = l.place
