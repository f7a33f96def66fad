use Rattle.std.proofs.Common.{◌≡◌, ◌<◌, ℕ, ℤ, List, Option, drop, false, get_or, length, take, true}
use Rattle.fits_stream.specs.Agree.{IsOf}
use Rattle.fits_unit.specs.Absence.{part_of}
use Rattle.fits_unit.specs.Again.{Follows}
use Rattle.fits_unit.specs.Part.{LoadsPart}
use Rattle.fits_unit.proofs.part_load.load_pieces.Given as goal

abbrev pub invariant-loop-n : goal.invariant-loop-n
invariant-loop-n g l = record {
  loads : (blank : Option ℤ) → LoadsPart (part_of l.place blank l.fn.unit) (part_of l.place blank l.unit);
  many : length l.unit.held ≡ length l.fn.unit.held;
  got : (k : ℕ) → k < l.n → get_or l.unit.held (get_or l.missing.items k 0) false ≡ true;
  same : (told : List ℕ) → IsOf told l.log → take (length l.fn.unit.plane.bytes) (drop l.place told) ≡ l.fn.unit.passed → l.unit.plane.bytes ≡ l.fn.unit.plane.bytes;
  begun : l.n ≡ 0 → l.unit ≡ l.fn.unit;
  quiet : l.log.failures ≡ l.fn.log.failures;
  follows : Follows l.fn.log l.log;
  looked : l.log.looked ≡ l.fn.log.looked;
  wide : length l.room ≡ length l.fn.room;
}
