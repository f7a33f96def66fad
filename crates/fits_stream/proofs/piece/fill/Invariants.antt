use Rattle.std.proofs.Common.{◌≡◌, ◌≤◌, ◌-◌, length, take}
use Rattle.fits_stream.specs.Stream.{Reads}
use Rattle.fits_stream.proofs.piece.fill.Given as goal

abbrev pub invariant-loop-count : goal.invariant-loop-count
invariant-loop-count g l = record {
  within : l.count ≤ length l.room;
  size : length l.room ≡ length l.fn.room;
  filled : Reads (take l.count l.room) (g.R.Source.state l.fn.source) (g.R.Source.state l.source);
}

abbrev pub decreases-loop-count : goal.decreases-loop-count
decreases-loop-count g l = length l.room - l.count
