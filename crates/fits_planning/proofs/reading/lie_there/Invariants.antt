use Rattle.std.proofs.Common.{◌≡◌, ◌≤◌, ◌+◌, ◌++◌, ℕ, List, length, take, drop}
use Rattle.fits_stream.specs.Agree.{IsOf}
use Rattle.fits_unit.specs.Again.{Follows}
use Rattle.fits_planning.proofs.reading.lie_there.Given as goal

abbrev pub invariant-loop-rest : goal.invariant-loop-rest
invariant-loop-rest g l = record {
  done : List ℕ;
  joined : l.bytes ≡ done ++ l.rest;
  place_is : l.place ≡ l.fn.place + length done;
  there : (told : List ℕ) → IsOf told l.log → take (length done) (drop l.fn.place told) ≡ done;
  within : (told : List ℕ) → IsOf told l.log → length done ≤ length (drop l.fn.place told);
  quiet : l.log.failures ≡ l.fn.log.failures;
  follows : Follows l.fn.log l.log;
}

abbrev pub decreases-loop-rest : goal.decreases-loop-rest
decreases-loop-rest g l = length l.rest
