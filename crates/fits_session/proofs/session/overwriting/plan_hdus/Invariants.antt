use Rattle.std.proofs.Common.{[], ◌≡◌, ◌%◌, true, length, map, take, drop, ℕ, List}
use Rattle.fits_stream.specs.Agree.{IsOf}
use Rattle.fits_unit.specs.Again.{Follows}
use Rattle.fits_passing.specs.File.{joined_hdus}
use Rattle.fits_hdu.specs.State.{hdu_at}
use Rattle.fits_planning.specs.Front.{MakesFront}
use Rattle.fits_session.specs.Away.{AllLie}
use Rattle.fits_session.specs.Overwriting.{stay_from}
use Rattle.fits_session.specs.Session.{absences_of, hdus_of}
use Rattle.fits_session.proofs.SaveLemmas.{first_read}
use Rattle.fits_session.proofs.session.overwriting.plan_hdus.Given as goal

abbrev pub invariant-loop-i : goal.invariant-loop-i
invariant-loop-i g l = record {
  start_is : l.start ≡ length (joined_hdus (take l.i (hdus_of l.fn.hdus.items)));
  begins : l.start % 2880 ≡ 0;
  stays : stay_from l.start (drop l.i l.hdus.items) ≡ true;
  plan : (told : List ℕ) → IsOf told l.log → AllLie told l.fn.hdus.items → MakesFront told [] l.fn.plan.blocks.items → MakesFront told (joined_hdus (take l.i (hdus_of (map (hdu_at told) l.fn.hdus.items)))) l.plan.blocks.items;
  place_is : (told : List ℕ) → AllLie told l.fn.hdus.items → length (joined_hdus (take l.i (hdus_of (map (hdu_at told) l.fn.hdus.items)))) ≡ l.start;
  len : l.plan.len ≡ l.fn.plan.len;
  quiet : l.log.failures ≡ l.fn.log.failures;
  follows : Follows l.fn.log l.log;
  lie : (bytes : List ℕ) → AllLie bytes l.fn.hdus.items → AllLie bytes l.hdus.items;
  absences : absences_of l.hdus.items ≡ absences_of l.fn.hdus.items;
  same : hdus_of l.hdus.items ≡ hdus_of l.fn.hdus.items;
  count : length l.hdus.items ≡ length l.fn.hdus.items;
  work : l.hdus.items ≡ first_read l.i l.fn.hdus.items;
}
