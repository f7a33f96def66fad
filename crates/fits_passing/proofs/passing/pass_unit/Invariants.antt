use Rattle.std.proofs.Common.{◌≡◌, ◌≤◌, ◌-◌, ◌%◌, ◌^◌, length}
use Rattle.fits_stream.specs.Intake.{supply, Takes}
use Rattle.fits_passing.proofs.passing.pass_unit.Given as goal

abbrev pub invariant-loop-unit : goal.invariant-loop-unit
invariant-loop-unit g l = record {
  even : l.len % 2880 ≡ 0;
  few : l.len ≤ 2 ^ 34;
  within : length l.unit.bytes ≤ l.len;
  whole : length l.unit.bytes % 2880 ≡ 0;
  layout : l.unit.layout ≡ l.fn.layout;
  taken : Takes (supply (g.R.Source.state l.fn.source) l.fn.intake) (supply (g.R.Source.state l.source) l.intake) l.unit.bytes;
}

abbrev pub decreases-loop-unit : goal.decreases-loop-unit
decreases-loop-unit g l = l.len - length l.unit.bytes
