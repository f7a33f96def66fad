use Rattle.std.proofs.Common.{◌≡◌, take}
use Rattle.fits_header.specs.State.{ReadsUpTo}
use Rattle.fits_table.proofs.copying.copied_cards.Given as goal

abbrev pub invariant-loop-i : goal.invariant-loop-i
invariant-loop-i l = record {
  cards : l.cards.items ≡ take l.i l.fn.header.header.cards;
  work : ReadsUpTo l.fn.header l.header l.i;
}
