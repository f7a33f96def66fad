use Rattle.std.proofs.Common.{◌≡◌, ◌≤◌, ◌-◌, ◌^◌, ℕ}
use Rattle.fits_plane.proofs.nodes.power_from.Given as goal

abbrev pub invariant-loop-width : goal.invariant-loop-width
invariant-loop-width l = (d : ℕ) × (l.width ≡ 2 ^ d) × ((e : ℕ) → l.used ≤ 2 ^ e → d ≤ e)

abbrev pub decreases-loop-width : goal.decreases-loop-width
decreases-loop-width l = l.used - l.width
