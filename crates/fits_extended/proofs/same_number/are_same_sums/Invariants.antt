use Rattle.std.proofs.Common.{◌≡◌, ◌+◌}
use Rattle.std.specs.Prelude.{◌↔◌}
use Rattle.fits_extended.specs.Numbers.{length_of_sum, value_of_sum}
use Rattle.fits_extended.proofs.same_number.are_same_sums.Given as goal

abbrev pub invariant-digits : goal.invariant-digits
invariant-digits l = (value_of_sum l.a ≡ value_of_sum l.b) ↔ (value_of_sum l.sum ≡ value_of_sum l.other)

abbrev pub decreases-digits : goal.decreases-digits
decreases-digits l = length_of_sum l.sum + length_of_sum l.other
