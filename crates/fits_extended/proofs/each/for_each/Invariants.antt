use Rattle.std.proofs.Common.{◌≡◌, ◌≤◌, ◌+◌, ◌-◌}
use Rattle.std.specs.Prelude.{Ok}
use Rattle.std.specs.Option.{option_copied}
use Rattle.fits_session.specs.Away.{LieStill}
use Rattle.fits_session.specs.Session.{absences_of, file_of, marked_of}
use Rattle.fits_extended.specs.Stands.{both, for_each, lines_in}
use Rattle.fits_extended.proofs.each.for_each.Given as goal

abbrev pub invariant-hdus : goal.invariant-hdus
invariant-hdus g l = record {
  so_far : both (Ok (lines_in l.lines.items)) (for_each (file_of l.fn.session) l.verb (option_copied l.more) (l.count - l.before) (l.before + 1)) ≡ for_each (file_of l.fn.session) l.verb (option_copied l.more) l.count 1;
  within : l.before ≤ l.count;
  same : marked_of l.session ≡ marked_of l.fn.session;
  stays : LieStill l.fn.session.hdus l.session.hdus;
  absences : absences_of l.session.hdus ≡ absences_of l.fn.session.hdus;
}

abbrev pub decreases-hdus : goal.decreases-hdus
decreases-hdus g l = l.count - l.before
