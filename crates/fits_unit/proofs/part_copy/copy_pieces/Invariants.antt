use Rattle.std.proofs.Common.{◌≡◌, ◌*◌, ◌≤◌, ℕ, List, drop, length, take}
use Rattle.fits_stream.specs.Agree.{IsOf}
use Rattle.fits_stream.specs.Stream.{Prints}
use Rattle.fits_unit.specs.Again.{Follows}
use Rattle.fits_unit.proofs.PartCopyLemmas.{CopiesUpTo}
use Rattle.fits_unit.proofs.part_copy.copy_pieces.Given as goal

abbrev pub invariant-loop-j : goal.invariant-loop-j
invariant-loop-j g l = record {
  up : CopiesUpTo l.place l.j l.unit l.fn.log l.log (g.W.Sink.state l.fn.sink) (g.W.Sink.state l.sink);
  same : (told : List ℕ) → IsOf told l.log → take (length l.unit.plane.bytes) (drop l.place told) ≡ l.unit.passed → Prints (take (46080 * l.j) l.unit.plane.bytes) (g.W.Sink.state l.fn.sink) (g.W.Sink.state l.sink);
  follows : Follows l.fn.log l.log;
  quiet : l.log.failures ≡ l.fn.log.failures;
  more : l.fn.log.looked ≤ l.log.looked;
  wide : length l.room ≡ length l.fn.room;
}
