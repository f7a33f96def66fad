use Rattle.std.proofs.Common.{◌≡◌}
use Rattle.std.specs.Prelude.{take}
use Rattle.fits_stream.specs.Log.{grown}
use Rattle.fits_stream.proofs.came.Came.add.Given as goal

abbrev pub invariant-loop-byte : goal.invariant-loop-byte
invariant-loop-byte l = l.self.log ≡ grown l.initial.self.log (take l.byte-index l.piece)
