use Rattle.std.proofs.Common.{◌≡◌, ◌≤◌, ◌+◌, ◌*◌, take}
use Rattle.fits_header.specs.Notes.{notes_of, total_in}
use Rattle.fits_header.proofs.passing_total.cards_total.Given as goal

abbrev pub invariant-loop-index : goal.invariant-loop-index
invariant-loop-index l = record {
  value : l.total ≡ total_in (notes_of (take l.index l.fn.cards.header.cards));
  within : l.total ≤ 4294967295 * (20 * l.index);
  header : l.cards.header ≡ l.fn.cards.header;
  room : l.cards.room ≡ l.fn.cards.room;
  work : l.cards.reads ≡ l.fn.cards.reads + l.index;
}
