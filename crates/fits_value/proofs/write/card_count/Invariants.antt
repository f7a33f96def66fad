use Rattle.std.proofs.Common.{◌≡◌, ◌≤◌, ◌+◌, length}
use Rattle.fits_value.specs.Spelling.{doubled}
use Rattle.fits_value.specs.Written.{cards_of_string, all_fit}
use Rattle.fits_value.proofs.write.card_count.Given as goal

-- the cards that were counted fit, so that all do where those of what is left do
abbrev pub invariant-pieces : goal.invariant-pieces
invariant-pieces l = record {
  so_far : l.count + length (cards_of_string l.lead (length l.rest) l.rest l.comment) ≡ 1 + length (cards_of_string l.fn.lead (length l.characters) l.characters l.comment);
  fits : all_fit (cards_of_string l.lead (length l.rest) l.rest l.comment) ≡ all_fit (cards_of_string l.fn.lead (length l.characters) l.characters l.comment);
  left_is : l.left ≡ length (doubled l.rest);
  lead_size : length l.lead ≡ 10;
  most : l.count + l.left ≤ 1 + length (doubled l.characters);
}

abbrev pub decreases-pieces : goal.decreases-pieces
decreases-pieces l = l.left
