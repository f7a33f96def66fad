use Rattle.std.proofs.Common.{◌-◌, ◌≡◌, ◌≤◌, ◌%◌, ◌^◌, length}
use Rattle.fits_stream.specs.Stream.{Reads}
use Rattle.fits_unit.proofs.again.pass_next.Given as goal

abbrev pub invariant-loop-unit : goal.invariant-loop-unit
invariant-loop-unit g l = record {
  even : l.len % 2880 ≡ 0;
  few : l.len ≤ 2 ^ 34;
  within : length l.unit.bytes ≤ l.len;
  blocks : length l.unit.bytes % 2880 ≡ 0;
  layout : l.unit.layout ≡ l.fn.layout;
  wide : length l.room ≡ length l.fn.room;
  read : Reads l.unit.bytes (g.R.Source.state l.fn.source) (g.R.Source.state l.source);
}

abbrev pub decreases-loop-unit : goal.decreases-loop-unit
decreases-loop-unit g l = l.len - length l.unit.bytes
