use Rattle.std.proofs.Common.{◌≡◌, ◌+◌, ◌*◌, ◌%◌, ◌++◌, ℕ, List, length}
use Rattle.fits_stream.specs.Agree.{IsOf}
use Rattle.fits_unit.specs.Again.{Follows}
use Rattle.fits_planning.specs.Front.{MakesFront}
use Rattle.fits_planning.proofs.blocks.pass_blocks.Given as goal

abbrev pub invariant-loop-block : goal.invariant-loop-block
invariant-loop-block g l = record {
  done : List ℕ;
  joined : l.bytes ≡ done ++ l.rest;
  place_is : 2880 * l.index ≡ l.fn.place + length done;
  whole : length l.rest % 2880 ≡ 0;
  plan : (told after : List ℕ) → IsOf told l.log → length after ≡ l.fn.place → MakesFront told after l.fn.plan.blocks.items → MakesFront told (after ++ done) l.plan.blocks.items;
  len : l.plan.len ≡ l.fn.plan.len;
  quiet : l.log.failures ≡ l.fn.log.failures;
  follows : Follows l.fn.log l.log;
}

abbrev pub decreases-loop-block : goal.decreases-loop-block
decreases-loop-block g l = length l.rest
