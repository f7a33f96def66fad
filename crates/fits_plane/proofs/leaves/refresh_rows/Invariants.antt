use Rattle.std.proofs.Common.{◌≡◌, ◌≤◌, ◌+◌, ◌-◌, ◌*◌, ◌^◌, ◌⊎◌, ℕ, drop, get_or}
use Rattle.fits_pixels.specs.Layout.{block_count, block_pixels}
use Rattle.fits_plane.specs.Rectangle.{row_size}
use Rattle.fits_plane.specs.DataBytes.{IsScanned}
use Rattle.fits_plane.specs.Tree.{most_above, nodes_left}
use Rattle.fits_plane.specs.Leaves.{leaf_unit, IsLeaf, IsBlockTreeBut}
use Rattle.fits_plane.proofs.BlockLemmas.{Walk}
use Rattle.fits_plane.proofs.leaves.refresh_rows.Given as goal

abbrev pub invariant-loop-row : goal.invariant-loop-row
invariant-loop-row l = record {
  tree : IsBlockTreeBut l.width l.last l.nodes;
  leaf : (l.last ≡ 1) ⊎ (l.width ≤ l.last);
  order : l.last ≤ l.width + l.next;
  walk : Walk l.painting.axes.now l.painting.lo.now l.painting.hi.now (block_pixels l.layout.width) l.layout.pixels (block_count l.initial.store.bytes) (row_size l.painting.lo.now l.painting.hi.now) l.row l.next (l.store.scans - l.initial.store.scans) (IsLeaf l.layout l.initial.store.bytes (drop l.width l.nodes));
  units : (k : ℕ) → block_count l.initial.store.bytes ≤ k → get_or (drop l.width l.nodes) k leaf_unit ≡ get_or (drop l.width l.initial.nodes) k leaf_unit;
  same : IsScanned l.initial.store l.store;
  more_work : l.initial.store.scans ≤ l.store.scans;
  more : l.initial.joins.total ≤ l.joins.total;
  few : (d : ℕ) → l.width ≤ 2 ^ d → l.joins.total + most_above d l.last ≤ l.initial.joins.total + (l.store.scans - l.initial.store.scans) * d;
  most : (h : ℕ) → l.width ≡ 2 ^ h → l.joins.total ≤ l.initial.joins.total + nodes_left h (l.last - l.width);
}
