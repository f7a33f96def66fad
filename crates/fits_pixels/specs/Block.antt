-- One block of a data unit, and the summary of it (own).
use Rattle.std.specs.Prelude.{ℕ, ◌-◌, ◌*◌, List, min, ℤ, take, drop}
use Rattle.fits_pixels.specs.declared.layout.Layout.{Layout}
use Rattle.fits_pixels.specs.Layout.{block_pixels}
use Rattle.fits_pixels.specs.declared.pixel_summary.PixelSummary.{PixelSummary}
use Rattle.fits_pixels.specs.declared.word_summary.WordSummary.{WordSummary}
use Rattle.fits_pixels.specs.declared.both.Both.{Both}
use Rattle.fits_pixels.specs.Summary.{side_by_side}
use Rattle.fits_pixels.specs.Statistics.{statistics}
use Rattle.fits_pixels.specs.Pixels.{pixels}
use Rattle.fits_sum.specs.Words.{word_total}

-- how many of n pixels block k holds, where a whole block holds `per`
abbrev pub held : ℕ → ℕ → ℕ → ℕ
held per n k = min per (n - k * per)

-- block k of the bytes
abbrev pub block_of : List ℕ → ℕ → List ℕ
block_of bytes k = take 2880 (drop (2880 * k) bytes)

-- the pixels that block k holds
abbrev pub block_numbers : Layout → List ℕ → ℕ → List ℤ
block_numbers layout bytes k =
    let per = block_pixels layout.width in
    pixels layout.width bytes (k * per) (held per layout.pixels k)

-- the statistics of the pixels that block k holds, and the total of its words
abbrev pub leaf_of : Layout → List ℕ → ℕ → Both PixelSummary WordSummary
leaf_of layout bytes k =
    side_by_side (statistics layout.blank (block_numbers layout bytes k))
    (record { total = word_total (block_of bytes k) })
