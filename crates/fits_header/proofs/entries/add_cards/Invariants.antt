use Rattle.std.proofs.Common.{◌≡◌, ◌+◌, ◌++◌, ℕ, List, length, take, vec_len, vec_capacity}
use Rattle.fits_header.specs.Index.{IsSortedIndex, AreSame, entries_from}
use Rattle.fits_header.specs.Names.{AreNamed}
use Rattle.fits_header.proofs.entries.add_cards.Given as goal

abbrev pub invariant-loop-index : goal.invariant-loop-index
invariant-loop-index l = record {
  sorted : IsSortedIndex l.entries.items;
  room : vec_capacity l.entries ≡ vec_capacity l.fn.entries;
  len : vec_len l.entries ≡ vec_len l.fn.entries + l.index;
  named : AreNamed (take l.index l.cards);
  same : (xs zs : List (List ℕ)) → length xs + 1 ≡ l.place
      → AreSame l.fn.entries.items (entries_from 1 xs ++ entries_from (l.place + length l.cards) zs)
      → AreSame l.entries.items (entries_from 1 (xs ++ take l.index l.cards) ++ entries_from (l.place + length l.cards) zs);
}
