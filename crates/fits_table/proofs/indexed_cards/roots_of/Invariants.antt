use Rattle.std.proofs.Common.{◌≡◌, true, take}
use Rattle.std.specs.List.{list_all}
use Rattle.fits_table.specs.Marks.{is_card_marked}
use Rattle.fits_table.proofs.indexed_cards.roots_of.Given as goal

abbrev pub invariant-loop-i : goal.invariant-loop-i
invariant-loop-i l = record {
  same : l.cards.header ≡ l.fn.cards.header;
  marked : list_all (is_card_marked l.roots) (take l.i l.fn.cards.header.cards) ≡ true;
}
