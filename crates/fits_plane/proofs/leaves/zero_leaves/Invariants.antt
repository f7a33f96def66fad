use Rattle.std.proofs.Common.{◌≡◌, ◌<◌, ◌≤◌, ◌+◌, ℕ, length, get_or}
use Rattle.fits_pixels.specs.Summary.{PixelFits, WordFits, HalvesFit}
use Rattle.fits_plane.specs.DataBytes.{IsScanned}
use Rattle.fits_plane.specs.Leaves.{leaf_unit, IsLeaf}
use Rattle.fits_plane.proofs.leaves.zero_leaves.Given as goal

abbrev pub invariant-loop-k : goal.invariant-loop-k
invariant-loop-k l = record {
  long : length l.leaves.items ≡ l.k;
  right : (j : ℕ) → j < l.k → IsLeaf l.layout l.fn.store.bytes l.leaves.items j;
  fit : (j : ℕ) → j < l.k → HalvesFit PixelFits WordFits (get_or l.leaves.items j leaf_unit);
  same : IsScanned l.fn.store l.store;
  work : l.store.scans ≤ l.fn.store.scans + l.k;
}
