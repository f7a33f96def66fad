use Rattle.std.proofs.Common.{◌≡◌, ◌+◌, ◌*◌, ◌^◌}
use Rattle.fits_extended.specs.Numbers.{length_of_run, value_of_run}
use Rattle.fits_extended.proofs.same_number.without_zeros.Given as goal

abbrev pub invariant-zeros : goal.invariant-zeros
invariant-zeros l = record {
  value : value_of_run l.digits ≡ value_of_run l.run * 10 ^ l.zeros;
  count : l.zeros + length_of_run l.run ≡ length_of_run l.digits;
}

abbrev pub decreases-zeros : goal.decreases-zeros
decreases-zeros l = length_of_run l.run
