use Rattle.std.proofs.Common.{◌≡◌, ◌≤◌, length, Ok}
use Rattle.fits_rules.specs.Shape.{axes_of}
use Rattle.fits_rules.specs.ShapeSteps.{cards_left}
use Rattle.fits_card.specs.CardList.{ReadsUpTo}
use Rattle.fits_rules.proofs.rules.read_axes.Given as goal

abbrev pub invariant-loop-i : goal.invariant-loop-i
invariant-loop-i l = record {
  work : ReadsUpTo l.fn.cards l.cards l.i;
  taken : axes_of (cards_left l.fn.cards.header.cards l.change) l.i ≡ Ok l.axes;
  count : length l.axes ≡ l.i;
  within : l.i ≤ length (cards_left l.fn.cards.header.cards l.change);
}
