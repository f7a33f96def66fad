-- Parts of a data unit, by groups of eight bytes: each holds whole pixels and whole words (own).
use Rattle.std.specs.Prelude.{◌≡◌, ◌≤◌, ◌<◌, ◌⊎◌, ℕ, ◌-◌, ◌*◌, ◌/◌, List, length, slice_index, take, drop, min}
use Rattle.fits_pixels.specs.declared.pixel_summary.PixelSummary.{PixelSummary}
use Rattle.fits_pixels.specs.declared.word_summary.WordSummary.{WordSummary}
use Rattle.fits_pixels.specs.declared.both.Both.{Both}
use Rattle.fits_pixels.specs.declared.layout.Layout.{Layout}
use Rattle.fits_pixels.specs.Summary.{side_by_side}
use Rattle.fits_pixels.specs.Statistics.{statistics}
use Rattle.fits_pixels.specs.Pixels.{pixels}
use Rattle.fits_sum.specs.Words.{word_total}

-- how many pixels of so many bytes a group of eight bytes has
abbrev pub group_pixels : ℕ → ℕ
group_pixels width = 8 / width

-- the statistics of the pixels that n groups hold from one group on, and the total of their words
abbrev pub part_of : Layout → List ℕ → ℕ → ℕ → Both PixelSummary WordSummary
part_of layout bytes from n =
    let per = group_pixels layout.width in
    side_by_side
    (statistics layout.blank (pixels layout.width bytes (from * per) (min (n * per) (layout.pixels - from * per))))
    (record { total = word_total (take (8 * n) (drop (8 * from) bytes)) })

-- each byte before one group and from another on is as before
pub record AreGroupsChanged (from to : ℕ) (old new : List ℕ) : Type 0 where
  pub long : length new ≡ length old
  pub outside : (j : ℕ) → (j < 8 * from) ⊎ (8 * to ≤ j) → slice_index new j ≡ slice_index old j
