use Rattle.std.proofs.Common.{◌≡◌, take}
use Rattle.fits_header.specs.Index.{entries_from}
use Rattle.fits_header.specs.Names.{AreNamed}
use Rattle.fits_header.proofs.entries.noted_entries.Given as goal

abbrev pub invariant-loop-index : goal.invariant-loop-index
invariant-loop-index l = record {
  value : l.entries.items ≡ entries_from 1 (take l.index l.cards.header.cards);
  named : AreNamed (take l.index l.cards.header.cards);
}
