use Rattle.std.proofs.Common.{◌≡◌, nat_eq, length}
use Rattle.std.specs.List.{list_all}
use Rattle.fits_card.proofs.text.are_spaces.Given as goal

abbrev pub invariant-pieces : goal.invariant-pieces
invariant-pieces l = list_all (nat_eq 32) l.rest ≡ list_all (nat_eq 32) l.text

abbrev pub decreases-pieces : goal.decreases-pieces
decreases-pieces l = length l.rest
