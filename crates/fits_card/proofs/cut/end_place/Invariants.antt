use Rattle.std.proofs.Common.{ℕ, ◌<◌}
use Rattle.fits_card.specs.Card.{IsEnd}
use Rattle.fits_card.specs.HeaderSteps.{piece}
use Rattle.fits_card.proofs.cut.end_place.Given as goal

abbrev pub invariant-loop-k : goal.invariant-loop-k
invariant-loop-k l = (j : ℕ) → j < l.k → IsEnd (piece l.bytes j) → ⊥
