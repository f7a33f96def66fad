use Rattle.std.proofs.Common.{◌+◌, ◌<◌, length}
use Rattle.std.specs.Prelude.{nat_eq}
use Rattle.fits_stream.specs.Intake.{supply}
use Rattle.fits_passing.specs.Reading.{NextBegins}
use Rattle.fits_passing.specs.declared.limits.TheConstants.{HDU_LIMIT}
use Rattle.fits_diff.specs.DiffSteps.{WalkPairs}
use Rattle.fits_diff.proofs.walking.walk_pairs.Given as goal

abbrev pub invariant-hdu : goal.invariant-hdu
invariant-hdu g l = record {
  walked : WalkPairs l.count (supply (g.F.Source.state l.fn.a) l.fn.first) (supply (g.F.Source.state l.a) l.first) (supply (g.F.Source.state l.fn.b) l.fn.second) (supply (g.F.Source.state l.b) l.second) l.text.items;
  begins : NextBegins (nat_eq l.count 0) l.first.ahead;
  begins_other : NextBegins (nat_eq l.count 0) l.second.ahead;
  few : l.count < HDU_LIMIT;
}

abbrev pub decreases-hdu : goal.decreases-hdu
decreases-hdu g l = length l.first.ahead + l.first.left
