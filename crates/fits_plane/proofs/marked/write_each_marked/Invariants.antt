use Rattle.std.proofs.Common.{◌≡◌, ◌≤◌, ◌+◌, ◌-◌, ◌*◌, ◌^◌, ◌⊎◌, ℕ, true, false, drop, get_or, take}
use Rattle.std.specs.Prelude.{count_by}
use Rattle.fits_plane.specs.Tree.{most_above, nodes_left, IsTreeBut}
use Rattle.fits_plane.proofs.marked.write_each_marked.Given as goal

abbrev pub invariant-loop-k : goal.invariant-loop-k
invariant-loop-k g l = let s = g.S.Summary in record {
  tree : IsTreeBut s.empty s.joined s.fits l.width l.last l.nodes;
  leaf : (l.last ≡ 1) ⊎ (l.width ≤ l.last);
  order : l.last ≤ l.width + l.k;
  made : (j : ℕ) → get_or (take l.k l.marks) j false ≡ true → g.F.Fn.post l.leaf (j, tt) (get_or (drop l.width l.nodes) j s.empty);
  kept : (j : ℕ) → get_or (take l.k l.marks) j false ≡ false → get_or (drop l.width l.nodes) j s.empty ≡ get_or (drop l.width l.initial.nodes) j s.empty;
  more : l.initial.joins.total ≤ l.joins.total;
  few : (d : ℕ) → l.width ≤ 2 ^ d → l.joins.total + most_above d l.last ≤ l.initial.joins.total + count_by (λ b. b) (take l.k l.marks) * d;
  left : (h : ℕ) → l.width ≡ 2 ^ h → l.joins.total ≤ l.initial.joins.total + nodes_left h (l.last - l.width);
}
