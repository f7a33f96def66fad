use Rattle.std.proofs.Common.{◌+◌, ◌<◌, length}
use Rattle.std.specs.Prelude.{nat_eq}
use Rattle.fits_stream.specs.Intake.{supply}
use Rattle.fits_passing.specs.declared.limits.TheConstants.{HDU_LIMIT}
use Rattle.fits_passing.specs.Reading.{NextBegins, Walked}
use Rattle.fits_passing.proofs.HeadersLemmas.{is_header}
use Rattle.fits_passing.proofs.headers.walk_headers.Given as goal

abbrev pub invariant-hdu : goal.invariant-hdu
invariant-hdu g l = record {
  walked : Walked is_header l.headers.items (supply (g.R.Source.state l.fn.source) l.fn.intake) (supply (g.R.Source.state l.source) l.intake);
  begins : NextBegins (nat_eq (length l.headers.items) 0) l.intake.ahead;
  few : length l.headers.items < HDU_LIMIT;
}

abbrev pub decreases-hdu : goal.decreases-hdu
decreases-hdu g l = length l.intake.ahead + l.intake.left
