use Rattle.std.proofs.Common.{◌≡◌, ◌+◌, ◌++◌, drop}
use Rattle.fits_image.specs.ImageCards.{axis_cards}
use Rattle.fits_image.proofs.image_cards.push_axes.Given as goal

abbrev pub invariant-loop-k : goal.invariant-loop-k
invariant-loop-k l = record {
  pushed : l.cards.items ++ axis_cards (l.k + 1) (drop l.k l.axes) ≡ l.fn.cards.items ++ axis_cards 1 l.axes;
}
