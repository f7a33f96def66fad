use Rattle.std.proofs.Common.{◌≡◌, ◌<◌, ◌^◌, take}
use Rattle.std.specs.Prelude.{IsTrue}
use Rattle.std.specs.List.{list_all}
use Rattle.fits_value.specs.Number.{value_of}
use Rattle.fits_value.specs.Spelling.{is_digit}
use Rattle.fits_script.proofs.words.read_digits.Given as goal

abbrev pub invariant-loop-byte : goal.invariant-loop-byte
invariant-loop-byte l = record {
  are : IsTrue (list_all is_digit (take l.byte-index l.digits));
  so_far : l.number ≡ value_of (take l.byte-index l.digits);
  small : l.number < 10 ^ l.byte-index;
}
