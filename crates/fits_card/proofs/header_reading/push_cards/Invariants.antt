use Rattle.std.proofs.Common.{◌≡◌, ◌++◌}
use Rattle.fits_card.specs.HeaderSteps.{pieces}
use Rattle.fits_card.proofs.header_reading.push_cards.Given as goal

abbrev pub invariant-loop-k : goal.invariant-loop-k
invariant-loop-k l = l.cards.items ≡ l.fn.cards.items ++ pieces l.block l.k
