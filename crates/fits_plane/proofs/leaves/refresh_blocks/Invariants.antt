use Rattle.std.proofs.Common.{max, ◌≡◌, ◌<◌, ◌≤◌, ◌+◌, ◌-◌, ◌*◌, ◌^◌, ◌⊎◌, ℕ, drop, get_or}
use Rattle.fits_plane.specs.Tree.{most_above, nodes_left}
use Rattle.fits_plane.specs.DataBytes.{IsScanned}
use Rattle.fits_plane.specs.Leaves.{leaf_unit, IsLeaf, IsBlockTreeBut}
use Rattle.fits_plane.proofs.leaves.refresh_blocks.Given as goal

abbrev pub invariant-loop-k : goal.invariant-loop-k
invariant-loop-k l = record {
  tree : IsBlockTreeBut l.width l.place l.nodes;
  made : (j : ℕ) → l.from ≤ j → j < l.k → IsLeaf l.layout l.initial.store.bytes (drop l.width l.nodes) j;
  kept : (j : ℕ) → (j < l.from) ⊎ (l.k ≤ j) → get_or (drop l.width l.nodes) j leaf_unit ≡ get_or (drop l.width l.initial.nodes) j leaf_unit;
  same : IsScanned l.initial.store l.store;
  work : l.store.scans ≡ l.initial.store.scans + (l.k - l.from);
  more : l.initial.joins.total ≤ l.joins.total;
  leaf : (l.place ≡ 1) ⊎ (l.width ≤ l.place);
  order : l.last ≤ l.width + l.from → l.place ≤ l.width + l.k;
  high : l.place ≤ max l.last (l.width + l.to);
  low : l.from ≤ l.k;
  limit : l.k ≤ max l.from l.to;
  few : (d : ℕ) → l.width ≤ 2 ^ d → l.joins.total + most_above d l.place ≤ l.initial.joins.total + most_above d l.last + (l.k - l.from) * d;
  left : (h : ℕ) → l.width ≡ 2 ^ h → l.last ≤ l.width + l.from → l.joins.total + nodes_left h (l.last - l.width) ≤ l.initial.joins.total + nodes_left h (l.place - l.width);
}
