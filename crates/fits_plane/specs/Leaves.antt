-- The summaries of the blocks of a data unit.
use Rattle.std.specs.Prelude.{◌≡◌, ◌<◌, ℕ, List, length, get_or}
use Rattle.fits_pixels.specs.declared.pixel_summary.PixelSummary.{PixelSummary}
use Rattle.fits_pixels.specs.declared.word_summary.WordSummary.{WordSummary}
use Rattle.fits_pixels.specs.declared.both.Both.{Both}
use Rattle.fits_pixels.specs.declared.layout.Layout.{Layout}
use Rattle.fits_pixels.specs.Summary.{pixel_unit, word_unit, side_by_side, pixels_joined, words_joined, halves_joined, PixelFits, WordFits, HalvesFit}
use Rattle.fits_pixels.specs.Block.{leaf_of}
use Rattle.fits_plane.specs.Tree.{IsTree, IsTreeBut}

-- the summary of no block
abbrev pub leaf_unit : Both PixelSummary WordSummary
leaf_unit = side_by_side pixel_unit word_unit

-- leaf k of the list is that of block k
abbrev pub IsLeaf : Layout → List ℕ → List (Both PixelSummary WordSummary) → ℕ → Type 0
IsLeaf layout bytes leaves k = get_or leaves k leaf_unit ≡ leaf_of layout bytes k

-- each leaf is that of its block
abbrev pub AreLeaves : Layout → List ℕ → List (Both PixelSummary WordSummary) → Type 0
AreLeaves layout bytes leaves = (k : ℕ) → k < length leaves → IsLeaf layout bytes leaves k

-- a tree of the summaries of n blocks
abbrev pub IsBlockTree : ℕ → List (Both PixelSummary WordSummary) → Type 0
IsBlockTree n nodes =
    IsTree leaf_unit (halves_joined pixels_joined words_joined) (HalvesFit PixelFits WordFits) n nodes

-- the same, but that the nodes above one place are yet to be joined
abbrev pub IsBlockTreeBut : ℕ → ℕ → List (Both PixelSummary WordSummary) → Type 0
IsBlockTreeBut n place nodes =
    IsTreeBut leaf_unit (halves_joined pixels_joined words_joined) (HalvesFit PixelFits WordFits)
    n place nodes
