-- What a plan makes of the front of a file (own).
use Rattle.std.specs.Prelude.{ℕ, ◌≤◌, List, length, take}
use Rattle.fits_redo.specs.Plan.{IsPlanOf}
use Rattle.fits_redo.specs.declared.changed_block.ChangedBlock.{ChangedBlock}

-- these blocks make these bytes of a front of the file that is as long
pub record MakesFront (told after : List ℕ) (blocks : List ChangedBlock) : Type 0 where
  pub within : length after ≤ length told
  pub plan : IsPlanOf (take (length after) told) after blocks
