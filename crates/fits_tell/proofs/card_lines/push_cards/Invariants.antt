use Rattle.std.proofs.Common.{◌≡◌, ◌++◌, take}
use Rattle.fits_tell.specs.Cards.{card_lines}
use Rattle.fits_tell.proofs.card_lines.push_cards.Given as goal

abbrev pub invariant-loop-it : goal.invariant-loop-it
invariant-loop-it l = l.text.items ≡ l.fn.text.items ++ card_lines (take l.it-index l.shown)
