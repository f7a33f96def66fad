use Rattle.std.proofs.Common.{◌≡◌, ◌+◌, ◌<◌, length, map, []}
use Rattle.std.specs.Prelude.{nat_eq}
use Rattle.fits_unit.specs.Again.{Follows}
use Rattle.fits_passing.specs.File.{joined_hdus, IsFrontOf}
use Rattle.fits_passing.specs.Met.{hdus_end, parts_met, reads_of, AllPassed, AreMet, BeginEach, IsLimitedBy}
use Rattle.fits_passing.specs.Reading.{NextBegins}
use Rattle.fits_passing.specs.declared.limits.TheConstants.{FILE_LIMIT, HDU_LIMIT}
use Rattle.fits_passing.specs.declared.look.Look.TheVariants as look
use Rattle.fits_passing.proofs.stored_walk.walk_stored.Given as goal

abbrev pub invariant-hdu : goal.invariant-hdu
invariant-hdu g l = record {
  begin : BeginEach l.hdus.items l.intake l.source;
  met : AreMet l.hdus.items;
  seen : l.fn.look ≡ look.All → AllPassed l.hdus.items;
  front : IsFrontOf (joined_hdus (map parts_met l.hdus.items)) (map parts_met l.hdus.items) [];
  few : length l.hdus.items < HDU_LIMIT;
  begins : NextBegins (nat_eq (length l.hdus.items) 0) l.intake.ahead;
  place : l.place ≡ hdus_end 0 l.hdus.items;
  left : l.place + length l.intake.ahead + l.intake.left ≡ FILE_LIMIT;
  limited : IsLimitedBy (reads_of l.source);
  quiet : l.source.failures ≡ l.fn.source.failures;
  follows : Follows (reads_of l.fn.source) (reads_of l.source);
}

abbrev pub decreases-hdu : goal.decreases-hdu
decreases-hdu g l = length l.intake.ahead + l.intake.left
