use Rattle.std.proofs.Common.{◌≡◌, take}
use Rattle.std.specs.List.{flat_map}
use Rattle.fits_c.specs.Queries.{offset_numbers}
use Rattle.fits_c.proofs.queries.offset_numbers.Given as goal

abbrev pub invariant-loop-at : goal.invariant-loop-at
invariant-loop-at l = l.numbers.items ≡ flat_map offset_numbers (take l.at-index l.offsets)
