use Rattle.std.proofs.Common.{◌≡◌, length, drop}
use Rattle.fits_redo.specs.Pair.{Files}
use Rattle.fits_redo.specs.Plan.{fits}
use Rattle.fits_redo.proofs.agreeing.agrees.Given as goal

abbrev pub invariant-loop-block : goal.invariant-loop-block
invariant-loop-block g l = (f : Files) → g.P.Pair.stands l.pair f → (l.len ≡ length f.file) × (fits l.from (drop l.block-index l.blocks) f.file ≡ fits 0 l.blocks f.file)
