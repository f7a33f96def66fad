use Rattle.std.proofs.Common.{◌≡◌, take}
use Rattle.fits_passing.specs.Headers.{cards_of}
use Rattle.fits_session.specs.Away.{LieStill}
use Rattle.fits_session.specs.Session.{absences_of, file_of, marked_of}
use Rattle.fits_cli.specs.NewTables.{problems_from}
use Rattle.fits_cli.proofs.table_problems.table_problems.Given as goal

abbrev pub invariant-loop-i : goal.invariant-loop-i
invariant-loop-i g l = record {
  report : l.report.items ≡ problems_from 1 (cards_of (take l.i (file_of l.fn.session).hdus));
  same : marked_of l.session ≡ marked_of l.fn.session;
  absences : absences_of l.session.hdus ≡ absences_of l.fn.session.hdus;
  stays : LieStill l.fn.session.hdus l.session.hdus;
}
