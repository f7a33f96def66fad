use Rattle.std.proofs.Common.{◌≡◌, ◌*◌, ℕ, List, drop, length, take}
use Rattle.fits_stream.specs.Agree.{IsOf}
use Rattle.fits_unit.specs.Again.{Follows}
use Rattle.fits_unit.proofs.PartReadLemmas.{ReadsUpTo}
use Rattle.fits_unit.proofs.part_read.read_pieces.Given as goal

abbrev pub invariant-loop-j : goal.invariant-loop-j
invariant-loop-j g l = record {
  up : ReadsUpTo l.fn.place l.fn.unit.held l.fn.unit.plane.bytes l.j l.fn.log l.log l.bytes.items;
  same : (told : List ℕ) → IsOf told l.log → take (length l.fn.unit.plane.bytes) (drop l.fn.place told) ≡ l.fn.unit.passed → l.bytes.items ≡ take (46080 * l.j) l.fn.unit.plane.bytes;
  quiet : l.log.failures ≡ l.fn.log.failures;
  follows : Follows l.fn.log l.log;
  looked : l.log.looked ≡ l.fn.log.looked;
}
