use Rattle.std.proofs.Common.{◌≡◌, ◌*◌, ◌++◌, ℕ, List, length, take}
use Rattle.fits_stream.specs.Agree.{IsOf}
use Rattle.fits_unit.specs.Again.{Follows}
use Rattle.fits_unit.specs.DataUnit.{unit_at, LiesIn}
use Rattle.fits_planning.specs.Front.{MakesFront}
use Rattle.fits_planning.proofs.hdu.plan_unit.Given as goal

abbrev pub invariant-loop-index : goal.invariant-loop-index
invariant-loop-index g l = record {
  plan : (told after : List ℕ) → IsOf told l.log → LiesIn told l.hdu.plane l.hdu.absent → length after ≡ l.place → MakesFront told after l.fn.plan.blocks.items
      → MakesFront told (after ++ take (46080 * l.index) (unit_at told l.hdu.plane.bytes l.hdu.absent)) l.plan.blocks.items;
  len : l.plan.len ≡ l.fn.plan.len;
  quiet : l.log.failures ≡ l.fn.log.failures;
  follows : Follows l.fn.log l.log;
}
