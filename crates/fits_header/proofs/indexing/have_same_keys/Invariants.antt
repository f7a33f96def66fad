use Rattle.std.proofs.Common.{◌≡◌, ◌-◌, drop, map, take}
use Rattle.fits_card.specs.Card.{keyword_name, has_value}
use Rattle.fits_header.proofs.KeyLemmas.{name_in, value_in}
use Rattle.fits_header.proofs.indexing.have_same_keys.Given as goal

abbrev pub invariant-loop-index : goal.invariant-loop-index
invariant-loop-index l = record {
  names : map keyword_name (take l.index l.cards) ≡ map name_in (take l.index (drop (l.place - 1) l.notes.items));
  values : map has_value (take l.index l.cards) ≡ map value_in (take l.index (drop (l.place - 1) l.notes.items));
}
