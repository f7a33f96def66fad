-- How the bytes of a data unit are read (FITS Standard 4.0, 3.3.2, 3.3.3 and 5.2; own).
use Rattle.std.specs.Prelude.{◌≡◌, ◌≤◌, ◌⊎◌, ℕ, ◌*◌, ◌/◌, ◌%◌, List, length}
use Rattle.fits_pixels.specs.declared.layout.Layout.{Layout}
use Rattle.fits_pixels.specs.Pixels.{IsWidth}

-- how many whole pixels of so many bytes a block of 2880 bytes has
abbrev pub block_pixels : ℕ → ℕ
block_pixels width = 2880 / width

-- how many whole blocks the bytes have
abbrev pub block_count : List ℕ → ℕ
block_count bytes = length bytes / 2880

-- the layout fits the bytes: whole blocks, at most 2^32 words, the pixels before the fill
pub record IsLayout (layout : Layout) (bytes : List ℕ) : Type 0 where
  pub width : (layout.width ≡ 0) ⊎ IsWidth layout.width
  pub no_pixels : layout.width ≡ 0 → layout.pixels ≡ 0
  pub room : layout.pixels * layout.width ≤ layout.used
  pub used : layout.used ≤ length bytes
  pub whole : length bytes % 2880 ≡ 0
  pub limit : length bytes ≤ 17179869184
