use Rattle.std.proofs.Common.{◌-◌, ◌≡◌, ◌≤◌, length}
use Rattle.fits_stream.specs.Stream.{Reads}
use Rattle.fits_unit.proofs.again.read_next.Given as goal

abbrev pub invariant-loop-bytes : goal.invariant-loop-bytes
invariant-loop-bytes g l = record {
  within : length l.bytes.items ≤ l.len;
  wide : length l.room ≡ length l.fn.room;
  read : Reads l.bytes.items (g.R.Source.state l.fn.source) (g.R.Source.state l.source);
}

abbrev pub decreases-loop-bytes : goal.decreases-loop-bytes
decreases-loop-bytes g l = l.len - length l.bytes.items
