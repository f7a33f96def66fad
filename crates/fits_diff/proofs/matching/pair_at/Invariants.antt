use Rattle.std.proofs.Common.{◌≡◌, ℕ, ◌-◌, ◌<◌, ◌≤◌}
use Rattle.fits_diff.specs.Matching.{AreAlike}
use Rattle.fits_diff.proofs.matching.pair_at.Given as goal

abbrev pub invariant-loop-first : goal.invariant-loop-first
invariant-loop-first l = record {
  none : (s : ℕ) → l.least ≤ s → s < l.first → AreAlike l.fn.cards.header.cards l.fn.others.header.cards s (l.far - s) → ⊥;
  ordered : l.least ≤ l.first;
  same : l.cards.header ≡ l.fn.cards.header;
  same_others : l.others.header ≡ l.fn.others.header;
}
