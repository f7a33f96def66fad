use Rattle.std.proofs.Common.{◌≡◌, ◌++◌, length}
use Rattle.fits_value.specs.Spelling.{doubled}
use Rattle.fits_value.specs.Written.{cards_of_string}
use Rattle.fits_value.proofs.write.cards_of_string.Given as goal

-- the cards so far and those of what is left are all
abbrev pub invariant-pieces : goal.invariant-pieces
invariant-pieces l = record {
  so_far : l.cards.items ++ cards_of_string l.lead (length l.rest) l.rest l.comment ≡ cards_of_string l.fn.lead (length l.characters) l.characters l.comment;
  left_is : l.left ≡ length (doubled l.rest);
}

abbrev pub decreases-pieces : goal.decreases-pieces
decreases-pieces l = l.left
