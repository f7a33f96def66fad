use Rattle.std.proofs.Common.{◌≡◌, ◌*◌, ◌++◌, take}
use Rattle.fits_unit.proofs.passing_unit.PassingUnit.add.Given as goal

abbrev pub invariant-loop-k : goal.invariant-loop-k
invariant-loop-k l = l.self ≡ record l.fn.self { bytes = l.fn.self.bytes ++ take (2880 * l.k) l.piece }
