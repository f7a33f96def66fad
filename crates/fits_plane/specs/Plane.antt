-- What a data unit is to its callers.
use Rattle.std.specs.Prelude.{◌≡◌, ◌≤◌, ◌+◌, ◌*◌, ◌^◌, ℕ, ℤ, List}
use Rattle.fits_pixels.specs.Layout.{block_count}
use Rattle.fits_pixels.specs.declared.layout.Layout.{Layout}
use Rattle.fits_plane.specs.Rectangle.{rectangle_written}
use Rattle.fits_plane.specs.Work.{rectangle_blocks}

-- its bytes with a layout, and how many blocks were scanned, pixels read and nodes joined so far
pub record PlaneState : Type 0 where
  pub bytes : List ℕ
  pub layout : Layout
  pub scans : ℕ
  pub reads : ℕ
  pub joins : ℕ

-- each pixel of a rectangle has the number of its rank, and every other byte is as before; each block that holds a byte of it
-- was scanned at most once, with no more joins than there are nodes, and no pixel was read
pub record IsPainted (axes lo hi : List ℕ) (number : ℕ → ℤ) (old new : PlaneState) : Type 0 where
  pub bytes : new.bytes ≡ rectangle_written old.layout.width axes lo hi number old.bytes
  pub layout : new.layout ≡ old.layout
  pub reads : new.reads ≡ old.reads
  pub more_scans : old.scans ≤ new.scans
  pub scans : new.scans ≤ old.scans + rectangle_blocks old.layout old.bytes axes lo hi
  pub more_joins : old.joins ≤ new.joins
  pub joins : (d : ℕ) → block_count old.bytes ≤ 2 ^ d → new.joins ≤ old.joins + rectangle_blocks old.layout old.bytes axes lo hi * d
  pub most : (d : ℕ) → block_count old.bytes ≤ 2 ^ d → new.joins ≤ old.joins + 2 ^ d
