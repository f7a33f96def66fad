use Rattle.std.proofs.Common.{◌≡◌, ◌++◌, map, take, drop}
use Rattle.fits_header.specs.Index.{shifted}
use Rattle.fits_header.proofs.shifts.step_back_all.Given as goal

abbrev pub invariant-loop-index : goal.invariant-loop-index
invariant-loop-index l = l.entries ≡ map (shifted l.place 1 0) (take l.index l.fn.entries) ++ drop l.index l.fn.entries
