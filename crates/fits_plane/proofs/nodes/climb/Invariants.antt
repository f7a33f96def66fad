use Rattle.std.proofs.Common.{◌≡◌, ℕ, ◌≤◌, ◌*◌, ◌/◌, ◌-◌, ◌^◌, get_or}
use Rattle.fits_plane.specs.Tree.{IsTreeBut}
use Rattle.fits_plane.proofs.PathLemmas.{Walked}
use Rattle.fits_plane.proofs.nodes.climb.Given as goal

abbrev pub invariant-loop-place : goal.invariant-loop-place
invariant-loop-place g l = let s = g.S.Summary in record {
  tree : IsTreeBut s.empty s.joined s.fits l.width l.place l.nodes;
  path : (k : ℕ) × (l.other ≡ l.to / 2 ^ k);
  leaves_kept : (k : ℕ) → l.width ≤ k → get_or l.nodes k s.empty ≡ get_or l.initial.nodes k s.empty;
  more : l.initial.joins.total ≤ l.joins.total;
  left : (h : ℕ) → l.width ≡ 2 ^ h → l.from ≤ l.to → Walked h l.from l.to l.place l.other l.initial.joins.total l.joins.total;
  few : 2 ^ (l.joins.total - l.initial.joins.total) * l.place ≤ l.from;
}

abbrev pub decreases-loop-place : goal.decreases-loop-place
decreases-loop-place g l = l.place
