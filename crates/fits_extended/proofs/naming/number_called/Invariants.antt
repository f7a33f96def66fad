use Rattle.std.proofs.Common.{◌≡◌, ◌+◌, ◌-◌}
use Rattle.fits_session.specs.Away.{LieStill}
use Rattle.fits_session.specs.Session.{absences_of, file_of, marked_of}
use Rattle.fits_extended.specs.Stands.{first_from, is_called, number_called}
use Rattle.fits_extended.proofs.naming.number_called.Given as goal

abbrev pub invariant-hdus : goal.invariant-hdus
invariant-hdus g l = record {
  found : first_from (is_called (file_of l.fn.session) l.name l.version) (l.count - l.before) (l.before + 1) ≡ number_called (file_of l.fn.session) l.name l.version;
  same : marked_of l.session ≡ marked_of l.fn.session;
  stays : LieStill l.fn.session.hdus l.session.hdus;
  absences : absences_of l.session.hdus ≡ absences_of l.fn.session.hdus;
}

abbrev pub decreases-hdus : goal.decreases-hdus
decreases-hdus g l = l.count - l.before
