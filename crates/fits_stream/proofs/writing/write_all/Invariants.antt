use Rattle.std.proofs.Common.{◌≤◌, ◌-◌, take, length}
use Rattle.fits_stream.specs.Stream.{Prints}
use Rattle.fits_stream.proofs.writing.write_all.Given as goal

abbrev pub invariant-loop-at : goal.invariant-loop-at
invariant-loop-at g l = record {
  within : l.at ≤ length l.bytes;
  printed : Prints (take l.at l.bytes) (g.W.Sink.state l.fn.sink) (g.W.Sink.state l.sink);
}

abbrev pub decreases-loop-at : goal.decreases-loop-at
decreases-loop-at g l = length l.bytes - l.at
