-- Whole blocks of a data unit in memory, some of which were painted since they were scanned (own).
use Rattle.std.specs.Prelude.{◌≡◌, ◌<◌, ◌≤◌, ◌⊎◌, ℕ, ◌*◌, ◌^◌, Bool, true, false, List, count_by, get_or, length, replicate}
use Rattle.fits_pixels.specs.declared.pixel_summary.PixelSummary.{PixelSummary}
use Rattle.fits_pixels.specs.declared.word_summary.WordSummary.{WordSummary}
use Rattle.fits_pixels.specs.declared.both.Both.{Both}
use Rattle.fits_pixels.specs.declared.layout.Layout.{Layout}
use Rattle.fits_pixels.specs.Layout.{IsLayout, block_count}
use Rattle.fits_plane.specs.Leaves.{IsLeaf}

-- their bytes with a layout, how many of them were scanned, of their pixels read and of the nodes above them joined so far, and which are
-- yet to be scanned
pub record PieceState : Type 0 where
  pub bytes : List ℕ
  pub layout : Layout
  pub scans : ℕ
  pub reads : ℕ
  pub joins : ℕ
  pub stale : List Bool

-- each leaf is that of its block, but where one is yet to be scanned
pub record HaveLeaves (layout : Layout) (bytes : List ℕ) (leaves : List (Both PixelSummary WordSummary)) (stale : List Bool) : Type 0 where
  pub fits : IsLayout layout bytes
  pub whole : length bytes ≡ 2880 * length leaves
  pub marks : length stale ≡ length leaves
  pub right : (k : ℕ) → k < length leaves → get_or stale k false ≡ false → IsLeaf layout bytes leaves k

-- no block is yet to be scanned
abbrev pub IsFresh : List Bool → Type 0
IsFresh stale = (k : ℕ) → get_or stale k false ≡ false

-- how many are
abbrev pub stale_count : List Bool → ℕ
stale_count stale = count_by (λ b. b) stale

-- they are the blocks of these bytes, each of which was scanned once
pub record IsTaken (layout : Layout) (bytes : List ℕ) (it : PieceState) : Type 0 where
  pub bytes_are : it.bytes ≡ bytes
  pub layout_is : it.layout ≡ layout
  pub scans : it.scans ≡ block_count bytes
  pub reads : it.reads ≡ 0
  pub joins : (d : ℕ) → block_count bytes ≤ 2 ^ d → it.joins ≤ 2 ^ d
  pub stale : it.stale ≡ replicate (block_count bytes) false

-- those from one on, up to another, are too
pub record AreMarked (from to : ℕ) (old new : List Bool) : Type 0 where
  pub long : length new ≡ length old
  pub inside : (k : ℕ) → from ≤ k → k < to → get_or new k false ≡ true
  pub outside : (k : ℕ) → (k < from) ⊎ (to ≤ k) → get_or new k false ≡ get_or old k false
