use Rattle.std.proofs.Common.{◌-◌, ◌≤◌}
use Rattle.fits_stream.specs.Intake.{supply}
use Rattle.fits_diff.proofs.PassingLemmas.{SameSoFar}
use Rattle.fits_diff.proofs.passing.pass_same.Given as goal

abbrev pub invariant-loop-count : goal.invariant-loop-count
invariant-loop-count g l = record {
  so_far : SameSoFar l.count (supply (g.F.Source.state l.fn.a) l.fn.first) (supply (g.F.Source.state l.a) l.first) (supply (g.F.Source.state l.fn.b) l.fn.second) (supply (g.F.Source.state l.b) l.second);
  within : l.count ≤ l.len;
}

abbrev pub decreases-loop-count : goal.decreases-loop-count
decreases-loop-count g l = l.len - l.count
