use Rattle.std.proofs.Common.{◌≡◌, ◌-◌, ◌≤◌, length}
use Rattle.fits_patch.proofs.GapLemmas.{DrawnSoFar}
use Rattle.fits_patch.proofs.gaps.header_patch.Given as goal

abbrev pub invariant-pair : goal.invariant-pair
invariant-pair l = record {
  so_far : DrawnSoFar l.h l.fn.cards.header.cards l.fn.others.header.cards l.at.first l.at.second l.text.items;
  within : l.at.first ≤ length l.fn.cards.header.cards;
  within_other : l.at.second ≤ length l.fn.others.header.cards;
  same : l.cards.header ≡ l.fn.cards.header;
  same_others : l.others.header ≡ l.fn.others.header;
}

abbrev pub decreases-pair : goal.decreases-pair
decreases-pair l = length l.fn.cards.header.cards - l.at.first
