use Rattle.std.proofs.Common.{◌≡◌, map, take}
use Rattle.fits_passing.specs.Headers.{read_cards}
use Rattle.fits_tell.specs.Asked.{number_asked}
use Rattle.fits_tell.proofs.seeking.numbers_asked.Given as goal

abbrev pub invariant-loop-it : goal.invariant-loop-it
invariant-loop-it l = record {
  same : read_cards l.headers.items ≡ read_cards l.fn.headers.items;
  numbers : l.numbers.items ≡ map (number_asked (read_cards l.fn.headers.items)) (take l.it-index l.asked);
}
