use Rattle.std.proofs.Common.{◌≡◌, ◌≤◌, ◌<◌, take}
use Rattle.fits_value.specs.Number.{value_of}
use Rattle.fits_codes.proofs.dates.number_of.Given as goal

abbrev pub invariant-loop-digit : goal.invariant-loop-digit
invariant-loop-digit l = record {
  value : l.number ≡ value_of (take l.digit-index l.digits);
  none : l.digit-index < 1 → l.number ≤ 0;
  one : l.digit-index < 2 → l.number ≤ 207;
  two : l.digit-index < 3 → l.number ≤ 2277;
  three : l.digit-index < 4 → l.number ≤ 22977;
  four : l.digit-index < 5 → l.number ≤ 229977;
}
