use Rattle.std.proofs.Common.{◌≡◌, ◌++◌, map, take, drop}
use Rattle.fits_header.specs.Index.{turned}
use Rattle.fits_header.proofs.shifts.turn_back_all.Given as goal

abbrev pub invariant-loop-index : goal.invariant-loop-index
invariant-loop-index l = l.entries ≡ map (turned l.from l.to) (take l.index l.fn.entries) ++ drop l.index l.fn.entries
