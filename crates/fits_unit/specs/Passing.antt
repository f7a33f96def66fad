-- What is known of a data unit whose bytes pass by, of which no more than a piece is held at once (own).
use Rattle.std.specs.Prelude.{◌≡◌, ◌⊎◌, ◌<◌, ◌≤◌, ℕ, ◌/◌, ◌%◌, ◌^◌, ℤ, Bool, List, Option, drop, length, min, nat_eq, slice_index}
use Rattle.std.specs.List.{list_all}
use Rattle.fits_pixels.specs.Layout.{IsLayout, block_count}
use Rattle.fits_pixels.specs.Pixels.{pixels, IsWidth}
use Rattle.fits_pixels.specs.Statistics.{statistics}
use Rattle.fits_pixels.specs.declared.layout.Layout.{Layout}
use Rattle.fits_pixels.specs.declared.pixel_summary.PixelSummary.{PixelSummary}
use Rattle.fits_sum.specs.Words.{word_total}

-- how many of its pixels so many of its first bytes have
abbrev pub pixels_in : Layout → ℕ → ℕ
pixels_in layout count = min layout.pixels (count / layout.width)

-- the bytes of a data unit that passed by so far, and how all of them are read
pub record PassingState : Type 0 where
  pub layout : Layout
  pub bytes : List ℕ

-- so many bytes of it passed by, in whole blocks of which each was scanned once, with the statistics of their pixels, the total of their
-- words, and whether those that are data fill are what they should be
pub record IsPassing (layout : Layout) (bytes : List ℕ) (count : ℕ) (stored : PixelSummary) (total : ℕ) (filled : Bool) (scans : ℕ) : Type 0 where
  pub width : (layout.width ≡ 0) ⊎ IsWidth layout.width
  pub no_pixels : layout.width ≡ 0 → layout.pixels ≡ 0
  pub small : (k : ℕ) → slice_index bytes k < 256
  pub whole : length bytes % 2880 ≡ 0
  pub few : length bytes ≤ 2 ^ 34
  pub count_is : count ≡ length bytes
  pub stored_are : stored ≡ statistics layout.blank (pixels layout.width bytes 0 (pixels_in layout (length bytes)))
  pub total_is : total ≡ word_total bytes
  pub filled_is : filled ≡ list_all (nat_eq layout.fill) (drop layout.used bytes)
  pub scans_are : scans ≡ block_count bytes

-- a data unit whose bytes passed by, how it is read, the stored number of undefined pixels as they did, and how many blocks were scanned
pub record PassedState : Type 0 where
  pub bytes : List ℕ
  pub layout : Layout
  pub blank : Option ℤ
  pub scans : ℕ

-- this is known of it: the statistics of its pixels but for those that had this number, the total of its words, whether its fill is what
-- it should be, and how many bytes it has; each of its blocks was scanned once
pub record KnowsOf (bytes : List ℕ) (layout : Layout) (blank : Option ℤ) (stored : PixelSummary) (total : ℕ) (filled : Bool) (len scans : ℕ) : Type 0 where
  pub fits : IsLayout layout bytes
  pub small : (k : ℕ) → slice_index bytes k < 256
  pub stored_are : stored ≡ statistics blank (pixels layout.width bytes 0 layout.pixels)
  pub total_is : total ≡ word_total bytes
  pub filled_is : filled ≡ list_all (nat_eq layout.fill) (drop layout.used bytes)
  pub len_is : len ≡ length bytes
  pub scans_are : scans ≡ block_count bytes
