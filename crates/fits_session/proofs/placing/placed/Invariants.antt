use Rattle.std.proofs.Common.{All, ◌≡◌, ◌≤◌, ◌^◌, ◌++◌, ℕ, List, length, map}
use Rattle.fits_hdu.specs.State.{hdu_at}
use Rattle.fits_passing.specs.File.{joined_hdus}
use Rattle.fits_passing.specs.Met.{all_there, hdus_end, parts_met, AllLieThere, AllPassed, AreMet}
use Rattle.fits_session.specs.Away.{AllLie, AreOpenedFrom}
use Rattle.fits_session.specs.Session.{hdus_of, IsSeen}
use Rattle.fits_session.proofs.placing.placed.Given as goal

abbrev pub invariant-loop-it : goal.invariant-loop-it
invariant-loop-it l = record {
  there : (told : List ℕ) → AllLieThere told 0 l.fn.passed.items → hdus_of (map (hdu_at told) l.hdus.items) ++ all_there told l.end l.it-iterator.rest.items ≡ all_there told 0 l.fn.passed.items;
  lie : (told : List ℕ) → AllLieThere told 0 l.fn.passed.items → AllLie told l.hdus.items × AllLieThere told l.end l.it-iterator.rest.items;
  parts : hdus_of l.hdus.items ++ map parts_met l.it-iterator.rest.items ≡ map parts_met l.fn.passed.items;
  end : l.end ≡ length (joined_hdus (hdus_of l.hdus.items));
  few : hdus_end l.end l.it-iterator.rest.items ≤ 2 ^ 34;
  opened : AreOpenedFrom 0 l.hdus.items;
  met : AreMet l.it-iterator.rest.items;
  seen : AllPassed l.fn.passed.items → All IsSeen l.hdus.items × AllPassed l.it-iterator.rest.items;
}
