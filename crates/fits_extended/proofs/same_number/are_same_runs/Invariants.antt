use Rattle.std.proofs.Common.{◌≡◌, ◌+◌}
use Rattle.std.specs.Prelude.{◌↔◌}
use Rattle.fits_extended.specs.Numbers.{length_of_run, value_of_run}
use Rattle.fits_extended.proofs.same_number.are_same_runs.Given as goal

abbrev pub invariant-digits : goal.invariant-digits
invariant-digits l = (value_of_run l.a ≡ value_of_run l.b) ↔ (value_of_run l.run ≡ value_of_run l.other)

abbrev pub decreases-digits : goal.decreases-digits
decreases-digits l = length_of_run l.run + length_of_run l.other
