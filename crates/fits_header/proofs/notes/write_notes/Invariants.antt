use Rattle.std.proofs.Common.{◌≡◌, ◌-◌, length}
use Rattle.std.proofs.Math.Seq.{paste}
use Rattle.fits_header.specs.Notes.{notes_of}
use Rattle.fits_header.proofs.notes.write_notes.Given as goal

abbrev pub invariant-loop-index : goal.invariant-loop-index
invariant-loop-index l = record {
  notes : l.notes.items ≡ paste l.fn.notes.items (l.place - 1) (notes_of l.cards) l.index;
  len : length l.notes.items ≡ length l.fn.notes.items;
  room : l.notes.room ≡ l.fn.notes.room;
}
