use Rattle.std.proofs.Common.{◌≡◌, length, take, drop}
use Rattle.fits_passing.specs.File.{joined_hdus}
use Rattle.fits_session.specs.Overwriting.{stay_from}
use Rattle.fits_session.specs.Session.{hdus_of}
use Rattle.fits_session.proofs.session.overwriting.stay.Given as goal

abbrev pub invariant-loop-hdu : goal.invariant-loop-hdu
invariant-loop-hdu l = record {
  start : l.start ≡ length (joined_hdus (take l.hdu-index (hdus_of l.hdus)));
  stays : stay_from 0 l.hdus ≡ stay_from l.start (drop l.hdu-index l.hdus);
}
