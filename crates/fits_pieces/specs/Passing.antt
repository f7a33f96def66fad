-- A data unit whose bytes pass by, piece after piece (own).
use Rattle.std.specs.Prelude.{◌≡◌, ◌<◌, ◌≤◌, ℕ, ◌*◌, List, length, min, get_or, replicate, slice_index}
use Rattle.fits_pixels.specs.declared.pixel_summary.PixelSummary.{PixelSummary}
use Rattle.fits_pixels.specs.declared.word_summary.WordSummary.{WordSummary}
use Rattle.fits_pixels.specs.declared.both.Both.{Both}
use Rattle.fits_pixels.specs.declared.layout.Layout.{Layout}
use Rattle.fits_pixels.specs.Layout.{IsLayout, block_count}
use Rattle.fits_pixels.specs.Summary.{HalvesFit, PixelFits, WordFits}
use Rattle.fits_plane.specs.Leaves.{leaf_unit}
use Rattle.fits_pieces.specs.Piece.{piece_leaf, piece_of, pieces_in}

-- how all of its bytes are read, how many they are, and those that passed by so far
pub record PassingState : Type 0 where
  pub layout : Layout
  pub len : ℕ
  pub bytes : List ℕ

-- whole pieces of it passed by, or all of it; this is kept of each, and each of their blocks was scanned once
pub record HavePassed (layout : Layout) (len : ℕ) (bytes : List ℕ) (leaves : List (Both PixelSummary WordSummary)) (room scans : ℕ) : Type 0 where
  pub fits : IsLayout layout (replicate len 0)
  pub small : (k : ℕ) → slice_index bytes k < 256
  pub size : length bytes ≡ min len (46080 * length leaves)
  pub many : length leaves ≤ pieces_in len
  pub right : (j : ℕ) → j < length leaves → get_or leaves j leaf_unit ≡ piece_leaf layout j (piece_of bytes j)
  pub fit : (j : ℕ) → j < length leaves → HalvesFit PixelFits WordFits (get_or leaves j leaf_unit)
  pub has_room : pieces_in len ≤ room
  pub scanned : scans ≡ block_count bytes
