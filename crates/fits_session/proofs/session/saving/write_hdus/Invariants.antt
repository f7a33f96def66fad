use Rattle.std.proofs.Common.{All, ◌≡◌, ◌%◌, take, length, map, ℕ, List, None}
use Rattle.fits_session.specs.Away.{AllLie, IsTold, WritesHdus}
use Rattle.fits_unit.specs.Again.{Follows, PrintsAs}
use Rattle.fits_stream.specs.Stream.{Prints}
use Rattle.fits_hdu.specs.State.{hdu_at}
use Rattle.fits_passing.specs.File.{joined_hdus}
use Rattle.fits_session.specs.Session.{absences_of, hdus_of}
use Rattle.fits_making.specs.Making.{IsHad}
use Rattle.fits_session.proofs.SaveLemmas.{first_read, HaveTotal}
use Rattle.fits_session.proofs.session.saving.write_hdus.Given as goal

abbrev pub invariant-loop-i : goal.invariant-loop-i
invariant-loop-i g l = record {
  printed : (told : List ℕ) → IsTold g.H.Holder.whole told l.log l.fn.hdus.items → Prints (joined_hdus (take l.i (hdus_of (map (hdu_at told) l.fn.hdus.items)))) (g.W.Sink.state l.fn.sink) (g.W.Sink.state l.sink);
  like : PrintsAs (HaveTotal l.fn.hdus.items (joined_hdus (take l.i (hdus_of l.fn.hdus.items)))) (length (joined_hdus (take l.i (hdus_of l.fn.hdus.items)))) (g.W.Sink.state l.fn.sink) (g.W.Sink.state l.sink);
  copied : WritesHdus (take l.i l.fn.hdus.items) l.fn.log l.log (g.W.Sink.state l.fn.sink) (g.W.Sink.state l.sink);
  words : length (joined_hdus (take l.i (hdus_of l.fn.hdus.items))) % 4 ≡ 0;
  quiet : l.log.failures ≡ l.fn.log.failures;
  follows : Follows l.fn.log l.log;
  lie : (bytes : List ℕ) → AllLie bytes l.fn.hdus.items → AllLie bytes l.hdus.items;
  absences : absences_of l.hdus.items ≡ absences_of l.fn.hdus.items;
  same : hdus_of l.hdus.items ≡ hdus_of l.fn.hdus.items;
  count : length l.hdus.items ≡ length l.fn.hdus.items;
  had : All (IsHad (record { whole = g.H.Holder.whole; told = None })) l.hdus.items;
  work : l.hdus.items ≡ first_read l.i l.fn.hdus.items;
}
