use Rattle.std.proofs.Common.{◌≡◌, ◌<◌, ◌≤◌, ◌+◌, ℕ, length, get_or}
use Rattle.fits_plane.proofs.nodes.ask_leaves.Given as goal

abbrev pub invariant-loop-i : goal.invariant-loop-i
invariant-loop-i g l = let s = g.S.Summary in record {
  long : length l.nodes ≡ length l.initial.nodes;
  asked : (k : ℕ) → k < l.i → g.F.Fn.post l.leaf (k, tt) (get_or l.nodes (l.width + k) s.empty);
  past : (k : ℕ) → l.width + l.i ≤ k → get_or l.nodes k s.empty ≡ get_or l.initial.nodes k s.empty;
  front : (k : ℕ) → k < l.width → get_or l.nodes k s.empty ≡ get_or l.initial.nodes k s.empty;
}
