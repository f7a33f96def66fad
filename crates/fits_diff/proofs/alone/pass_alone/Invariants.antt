use Rattle.std.proofs.Common.{◌+◌, ◌≤◌, length}
use Rattle.fits_stream.specs.Intake.{supply}
use Rattle.fits_passing.specs.declared.limits.TheConstants.{HDU_LIMIT}
use Rattle.fits_diff.specs.DiffSteps.{IsSeen}
use Rattle.fits_diff.proofs.AloneLemmas.{OnSoFar}
use Rattle.fits_diff.proofs.alone.pass_alone.Given as goal

abbrev pub invariant-hdu : goal.invariant-hdu
invariant-hdu g l = record {
  so_far : OnSoFar l.label l.count l.number (supply (g.F.Source.state l.fn.source) l.fn.intake) (supply (g.F.Source.state l.source) l.intake) l.fn.text.items l.text.items;
  few : l.number ≤ HDU_LIMIT;
  seen : IsSeen (supply (g.F.Source.state l.source) l.intake);
}

abbrev pub decreases-hdu : goal.decreases-hdu
decreases-hdu g l = length l.intake.ahead + l.intake.left
