-- Pieces of a data unit: each of sixteen blocks, the last of what is left (own).
use Rattle.std.specs.Prelude.{ℕ, ◌+◌, ◌-◌, ◌*◌, ◌/◌, List, min, take, drop}
use Rattle.fits_pixels.specs.declared.pixel_summary.PixelSummary.{PixelSummary}
use Rattle.fits_pixels.specs.declared.word_summary.WordSummary.{WordSummary}
use Rattle.fits_pixels.specs.declared.both.Both.{Both}
use Rattle.fits_pixels.specs.declared.layout.Layout.{Layout}
use Rattle.fits_pixels.specs.Block.{held}
use Rattle.fits_pixels.specs.Pixels.{pixels}
use Rattle.fits_pixels.specs.Statistics.{statistics}
use Rattle.fits_pixels.specs.Summary.{side_by_side}
use Rattle.fits_sum.specs.Words.{word_total}

-- how many pieces so many bytes have
abbrev pub pieces_in : ℕ → ℕ
pieces_in len = (len + 46079) / 46080

-- piece j of the bytes
abbrev pub piece_of : List ℕ → ℕ → List ℕ
piece_of bytes j = take 46080 (drop (46080 * j) bytes)

-- how many bytes piece j of so many has
abbrev pub piece_size : ℕ → ℕ → ℕ
piece_size len j = min 46080 (len - 46080 * j)

-- how many whole pixels of so many bytes a piece of sixteen blocks has
abbrev pub piece_pixels : ℕ → ℕ
piece_pixels width = 46080 / width

-- how the bytes of piece j are read
abbrev pub piece_layout : Layout → ℕ → Layout
piece_layout layout j = record layout {
  pixels = held (piece_pixels layout.width) layout.pixels j;
  used = min 46080 (layout.used - 46080 * j);
}

-- what is kept of bytes that are read so: the statistics of their pixels, and the total of their words
abbrev pub bytes_leaf : Layout → List ℕ → Both PixelSummary WordSummary
bytes_leaf layout bytes =
    side_by_side (statistics layout.blank (pixels layout.width bytes 0 layout.pixels)) (record { total = word_total bytes })

-- what is kept of piece j, which has these bytes
abbrev pub piece_leaf : Layout → ℕ → List ℕ → Both PixelSummary WordSummary
piece_leaf layout j bytes = bytes_leaf (piece_layout layout j) bytes
