use Rattle.std.proofs.Common.{◌≡◌, ◌*◌, ◌++◌, ℕ, length}
use Rattle.fits_redo.specs.Redo.{told_blocks}
use Rattle.fits_redo.proofs.redo.read_blocks.Given as goal

abbrev pub invariant-loop-block : goal.invariant-loop-block
invariant-loop-block l = (count : ℕ) → length l.fn.entries ≡ 5768 * count → (left : ℕ) × (length l.rest ≡ 5768 * left) × (l.told.items ++ told_blocks left l.rest ≡ told_blocks count l.fn.entries)

abbrev pub decreases-loop-block : goal.decreases-loop-block
decreases-loop-block l = length l.rest
