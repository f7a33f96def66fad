use Rattle.std.proofs.Common.{◌≡◌, ◌+◌, take, vec_len}
use Rattle.fits_header.specs.Notes.{notes_of}
use Rattle.fits_header.proofs.notes.read_notes.Given as goal

abbrev pub invariant-loop-index : goal.invariant-loop-index
invariant-loop-index l = record {
  notes : l.notes.items ≡ notes_of (take l.index l.fn.cards.header.cards);
  len : vec_len l.notes ≡ l.index;
  header : l.cards.header ≡ l.fn.cards.header;
  room : l.cards.room ≡ l.fn.cards.room;
  work : l.cards.reads ≡ l.fn.cards.reads + l.index;
}
