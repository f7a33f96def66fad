use Rattle.std.proofs.Common.{◌≡◌, take}
use Rattle.fits_passing.specs.Report.{names_from, wrong_from}
use Rattle.fits_session.specs.Session.{hdus_of}
use Rattle.fits_session.proofs.session.queries.problems.Given as goal

abbrev pub invariant-loop-i : goal.invariant-loop-i
invariant-loop-i l = record {
  listed : l.report.items ≡ wrong_from (names_from 1 (hdus_of l.fn.hdus.items)) 1 (take l.i (hdus_of l.fn.hdus.items));
  same : l.hdus.items ≡ l.fn.hdus.items;
}
