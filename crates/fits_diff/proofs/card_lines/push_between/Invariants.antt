use Rattle.std.proofs.Common.{◌≡◌, ◌+◌, ◌-◌, ◌≤◌, ◌++◌, drop, take}
use Rattle.fits_tell.specs.Numbered.{numbered}
use Rattle.fits_diff.specs.Matching.{signed_line}
use Rattle.fits_diff.proofs.card_lines.push_between.Given as goal

abbrev pub invariant-loop-index : goal.invariant-loop-index
invariant-loop-index l = record {
  told : l.text.items ≡ l.fn.text.items ++ numbered (signed_line l.sign l.number) (l.from + 1) (take (l.index - l.from) (drop l.from l.fn.cards.header.cards));
  ordered : l.from ≤ l.index;
  same : l.cards.header ≡ l.fn.cards.header;
}
