use Rattle.std.proofs.Common.{◌≡◌, length, take}
use Rattle.fits_passing.specs.File.{joined_hdus, offsets_from}
use Rattle.fits_session.specs.Session.{hdus_of}
use Rattle.fits_session.proofs.session.queries.offsets_of.Given as goal

abbrev pub invariant-loop-hdu : goal.invariant-loop-hdu
invariant-loop-hdu l = record {
  offsets : l.offsets.items ≡ offsets_from 0 (take l.hdu-index (hdus_of l.hdus));
  start : l.start ≡ length (joined_hdus (take l.hdu-index (hdus_of l.hdus)));
}
