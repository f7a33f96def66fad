use Rattle.std.proofs.Common.{◌≡◌, ℕ, ◌+◌, ◌<◌, ◌≤◌, ◌*◌, get_or, length}
use Rattle.fits_plane.specs.Tree.{IsJoined}
use Rattle.fits_plane.proofs.nodes.join_all.Given as goal

abbrev pub invariant-loop-place : goal.invariant-loop-place
invariant-loop-place g l = let s = g.S.Summary in record {
  low : 1 ≤ l.place;
  high : l.place ≤ l.width;
  long : length l.nodes ≡ 2 * l.width;
  top : s.fits (get_or l.nodes 0 s.empty);
  fit : (k : ℕ) → l.place ≤ k → k < 2 * l.width → s.fits (get_or l.nodes k s.empty);
  joined : (j : ℕ) → l.place ≤ j → j < l.width → IsJoined s.empty s.joined l.nodes j;
  leaves_kept : (k : ℕ) → l.width ≤ k → get_or l.nodes k s.empty ≡ get_or l.initial.nodes k s.empty;
  work : l.joins.total + l.place ≡ l.initial.joins.total + l.width;
}

abbrev pub decreases-loop-place : goal.decreases-loop-place
decreases-loop-place g l = l.place
