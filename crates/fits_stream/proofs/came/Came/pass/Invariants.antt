use Rattle.std.proofs.Common.{◌≡◌}
use Rattle.fits_stream.specs.Log.{passed}
use Rattle.fits_stream.proofs.came.Came.pass.Given as goal

abbrev pub invariant-loop-time : goal.invariant-loop-time
invariant-loop-time l = l.self.log ≡ passed l.initial.self.log l.time
