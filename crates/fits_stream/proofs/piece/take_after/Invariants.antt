use Rattle.std.proofs.Common.{◌≡◌, ◌≤◌, ◌-◌, ◌<◌, length}
use Rattle.fits_stream.specs.Intake.{ReadsAfter}
use Rattle.fits_stream.proofs.piece.take_after.Given as goal

abbrev pub invariant-loop-bytes : goal.invariant-loop-bytes
invariant-loop-bytes g l = record {
  wide : 0 < length l.room;
  size : length l.room ≡ length l.fn.room;
  within : length l.bytes.items ≤ l.len;
  read : ReadsAfter l.fn.before.items (g.R.Source.state l.fn.source) (g.R.Source.state l.source) l.bytes.items;
}

abbrev pub decreases-loop-bytes : goal.decreases-loop-bytes
decreases-loop-bytes g l = l.len - length l.bytes.items
