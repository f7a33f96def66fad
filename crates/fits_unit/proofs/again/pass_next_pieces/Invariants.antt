use Rattle.std.proofs.Common.{◌-◌, ◌≡◌, ◌≤◌, length}
use Rattle.fits_stream.specs.Stream.{Reads}
use Rattle.fits_unit.proofs.again.pass_next_pieces.Given as goal

abbrev pub invariant-loop-count : goal.invariant-loop-count
invariant-loop-count g l = record {
  within : l.count ≤ l.len;
  long : length l.unit.bytes ≡ l.count;
  len : l.unit.len ≡ l.fn.len;
  layout : l.unit.layout ≡ l.fn.layout;
  wide : length l.room ≡ length l.fn.room;
  read : Reads l.unit.bytes (g.R.Source.state l.fn.source) (g.R.Source.state l.source);
}

abbrev pub decreases-loop-count : goal.decreases-loop-count
decreases-loop-count g l = l.len - l.count
