use Rattle.std.proofs.Common.{All, ◌≡◌, ℕ, List, drop, length, take}
use Rattle.fits_unit.specs.Again.{Follows}
use Rattle.fits_session.specs.Away.{IsTold, LoadsAll}
use Rattle.fits_session.specs.Session.{marked_of, reads_of, session_at, IsSeen}
use Rattle.fits_session.proofs.session.loading.know_each.Given as goal

abbrev pub invariant-loop-i : goal.invariant-loop-i
invariant-loop-i g l = record {
  told : (told : List ℕ) → IsTold g.H.Holder.whole told l.log l.fn.session.hdus → IsTold g.H.Holder.whole told l.log l.session.hdus;
  same : (told : List ℕ) → IsTold g.H.Holder.whole told l.log l.fn.session.hdus → marked_of (session_at told l.session) ≡ marked_of (session_at told l.fn.session);
  each : LoadsAll l.fn.session l.session;
  rest : drop l.i l.session.hdus ≡ drop l.i l.fn.session.hdus;
  known : All IsSeen (take l.i l.session.hdus);
  idle : All IsSeen l.fn.session.hdus → l.session ≡ l.fn.session;
  seen : All IsSeen l.fn.session.hdus → All IsSeen l.session.hdus;
  quiet : l.log.failures ≡ l.fn.log.failures;
  follows : Follows l.fn.log l.log;
  reads : reads_of l.session.hdus ≡ reads_of l.fn.session.hdus;
}
