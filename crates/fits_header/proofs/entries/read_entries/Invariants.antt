use Rattle.std.proofs.Common.{◌≡◌, ◌+◌, take}
use Rattle.fits_header.specs.Index.{entries_from}
use Rattle.fits_header.specs.Names.{AreNamed}
use Rattle.fits_header.proofs.entries.read_entries.Given as goal

abbrev pub invariant-loop-index : goal.invariant-loop-index
invariant-loop-index l = record {
  value : l.entries.items ≡ entries_from 1 (take l.index l.fn.cards.header.cards);
  named : AreNamed (take l.index l.fn.cards.header.cards);
  header : l.cards.header ≡ l.fn.cards.header;
  room : l.cards.room ≡ l.fn.cards.room;
  work : l.cards.reads ≡ l.fn.cards.reads + l.index;
}
