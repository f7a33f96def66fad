use Rattle.std.proofs.Common.{◌≡◌, length}
use Rattle.fits_value.specs.Spelling.{doubled}
use Rattle.fits_value.specs.Unwritable.{last_piece}
use Rattle.fits_value.proofs.unwritable.last_len.Given as goal

-- the last piece of what is left is that of all
abbrev pub invariant-pieces : goal.invariant-pieces
invariant-pieces l = record {
  so_far : length (doubled (last_piece (length l.rest) l.rest)) ≡ length (doubled (last_piece (length l.characters) l.characters));
  left_is : l.left ≡ length (doubled l.rest);
}

abbrev pub decreases-pieces : goal.decreases-pieces
decreases-pieces l = l.left
