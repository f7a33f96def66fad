use Rattle.std.proofs.Common.{◌≡◌, ◌+◌, ◌≤◌, length, take}
use Rattle.fits_passing.specs.File.{joined_hdus}
use Rattle.fits_passing.specs.Report.{counts_in, names_from, wrong_from}
use Rattle.fits_session.specs.Session.{hdus_of}
use Rattle.fits_session.proofs.session.queries.counts_of.Given as goal

abbrev pub invariant-loop-i : goal.invariant-loop-i
invariant-loop-i l = record {
  counts : l.counts ≡ counts_in (wrong_from (names_from 1 (hdus_of l.fn.hdus.items)) 1 (take l.i (hdus_of l.fn.hdus.items)));
  within : l.counts.errors + l.counts.warnings ≤ length (joined_hdus (take l.i (hdus_of l.fn.hdus.items)));
  same : l.hdus.items ≡ l.fn.hdus.items;
}
