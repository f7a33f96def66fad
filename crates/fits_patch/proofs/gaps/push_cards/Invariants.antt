use Rattle.std.proofs.Common.{◌≡◌, ◌+◌, ◌-◌, ◌≤◌, ◌++◌, drop, take}
use Rattle.fits_tell.specs.Numbered.{numbered}
use Rattle.fits_patch.specs.Patch.{card_line}
use Rattle.fits_patch.proofs.gaps.push_cards.Given as goal

abbrev pub invariant-loop-index : goal.invariant-loop-index
invariant-loop-index l = record {
  told : l.text.items ≡ l.fn.text.items ++ numbered (card_line l.verb l.h) (l.from + 1) (take (l.index - l.from) (drop l.from l.fn.cards.header.cards));
  ordered : l.from ≤ l.index;
  same : l.cards.header ≡ l.fn.cards.header;
}
