use Rattle.std.proofs.Common.{◌≡◌, ◌+◌}
use Rattle.fits_stream.proofs.count.Count.add.Given as goal

abbrev pub invariant-loop-time : goal.invariant-loop-time
invariant-loop-time l = l.self.total ≡ l.initial.self.total + l.time
