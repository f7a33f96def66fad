use Rattle.std.proofs.Common.{◌≡◌, map, take}
use Rattle.std.specs.Int.{to_be_bytes, w64}
use Rattle.fits_header.proofs.numbers.names_of.Given as goal

abbrev pub invariant-loop-number : goal.invariant-loop-number
invariant-loop-number l = l.names.items ≡ map (to_be_bytes w64) (take l.number-index l.numbers)
