-- What one pass over the pixels of a block finds.
use Rattle.std.specs.Prelude.{◌≡◌, ℕ, zero, suc, ◌+◌, ◌*◌, ◌==◌, ℤ, pos, int_lt, Option, Some, None, List, [], ◌∷◌, length, filter, min, max, if◌then◌else◌}
use Rattle.byteorder.specs.Endian.{big_from}
use Rattle.fits_pixels.specs.declared.extremes.Extremes.{Extremes}
use Rattle.fits_pixels.specs.declared.pixel_summary.PixelSummary.{PixelSummary}
use Rattle.fits_pixels.specs.Pixels.{can_store}
use Rattle.fits_pixels.specs.Statistics.{is_blank, defined_numbers, least_of, greatest_of}

-- the numbers found: no least or greatest where no pixel is defined
abbrev pub found_summary : ℕ → ℕ → ℤ → ℤ → ℤ → PixelSummary
found_summary defined blank least greatest sum = record {
  defined = defined;
  blank = blank;
  least = if defined == 0 then None else Some least;
  greatest = if defined == 0 then None else Some greatest;
  sum = sum;
}

-- the least of bytes, 255 of none
abbrev pub lowest : List ℕ → ℕ
lowest [] = 255
lowest (x ∷ xs) = min x (lowest xs)

-- the greatest of bytes, 0 of none
abbrev pub highest : List ℕ → ℕ
highest [] = 0
highest (x ∷ xs) = max x (highest xs)

-- how many of the numbers are negative
abbrev pub negative_count : List ℤ → ℕ
negative_count [] = 0
negative_count (x ∷ xs) = (if int_lt x (pos 0) then 1 else 0) + negative_count xs

-- n pixels from pixel i on, added up as numbers without a sign
abbrev pub unsigned_total : ℕ → List ℕ → ℕ → ℕ → ℕ
unsigned_total width bytes i zero = 0
unsigned_total width bytes i (suc n) = big_from (i * width) width bytes + unsigned_total width bytes (i + 1) n

-- the number that BLANK names, where pixels of so many bytes can store it
abbrev pub storable_blank : ℕ → Option ℤ → Option ℤ
storable_blank width None = None
storable_blank width (Some b) = if can_store width b then Some b else None

-- what a pass over the numbers finds: the least and the greatest of those defined, where one is, how
-- many are negative, and how many blank
pub record AreExtremes (blank : Option ℤ) (xs : List ℤ) (e : Extremes) : Type 0 where
  pub least : (if length (defined_numbers blank xs) == 0 then None else Some e.least) ≡ least_of (defined_numbers blank xs)
  pub greatest : (if length (defined_numbers blank xs) == 0 then None else Some e.greatest) ≡ greatest_of (defined_numbers blank xs)
  pub negatives : e.negatives ≡ negative_count xs
  pub blanks : e.blanks ≡ length (filter (is_blank blank) xs)
