-- A data unit that is painted run by run, with what is kept of its blocks (own).
use Rattle.std.specs.Prelude.{◌≡◌, ◌≤◌, ◌<◌, ◌⊎◌, ℕ, ◌+◌, ◌*◌, ◌^◌, ℤ, List, drop, get_or, length, slice_index}
use Rattle.fits_pixels.specs.declared.pixel_summary.PixelSummary.{PixelSummary}
use Rattle.fits_pixels.specs.declared.word_summary.WordSummary.{WordSummary}
use Rattle.fits_pixels.specs.declared.both.Both.{Both}
use Rattle.fits_pixels.specs.declared.layout.Layout.{Layout}
use Rattle.fits_pixels.specs.Layout.{IsLayout, block_count}
use Rattle.fits_pixels.specs.Pixels.{pixel, IsStorable}
use Rattle.fits_plane.specs.declared.painting.Painting.{Painting}
use Rattle.fits_plane.specs.Leaves.{leaf_unit, AreLeaves, IsLeaf, IsBlockTreeBut}
use Rattle.fits_plane.specs.Paint.{HasValues}
use Rattle.fits_plane.specs.Painting.{number_of}

-- the leaves are those of the bytes, which the layout fits
pub record IsKept (layout : Layout) (bytes : List ℕ) (leaves : List (Both PixelSummary WordSummary)) : Type 0 where
  pub fits : IsLayout layout bytes
  pub whole : length bytes ≡ 2880 * length leaves
  pub right : AreLeaves layout bytes leaves

-- a tree of n leaves, but that the nodes above one place, a leaf's or the root, are yet to be joined; the first leaves are those of the bytes, which the layout fits, and the others are units
pub record IsKeptBut (layout : Layout) (bytes : List ℕ) (n place : ℕ) (nodes : List (Both PixelSummary WordSummary)) : Type 0 where
  pub fits : IsLayout layout bytes
  pub within : block_count bytes ≤ n
  pub leaf : (place ≡ 1) ⊎ (n ≤ place)
  pub tree : IsBlockTreeBut n place nodes
  pub right : (k : ℕ) → k < block_count bytes → IsLeaf layout bytes (drop n nodes) k
  pub units : (k : ℕ) → block_count bytes ≤ k → get_or (drop n nodes) k leaf_unit ≡ leaf_unit

-- there is a number for each of so many pixels from a rank on, and such pixels can store it
pub record CanPaint (width : ℕ) (it : Painting) (rank count : ℕ) : Type 0 where
  pub ranks : rank + count < 2 ^ 62
  pub values : HasValues it.paint.now (rank + count)
  pub storable : (x : ℕ) → x < count → IsStorable width (number_of it (rank + x))

-- the first x pixels of a row are written, and every other byte is as before
pub record RowWritten (w start x : ℕ) (value : ℕ → ℤ) (old new : List ℕ) : Type 0 where
  pub long : length new ≡ length old
  pub inside : (y : ℕ) → y < x → pixel w new (start + y) ≡ value y
  pub outside : (j : ℕ) → (j < start * w) ⊎ ((start + x) * w ≤ j) → slice_index new j ≡ slice_index old j
