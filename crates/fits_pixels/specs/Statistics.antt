-- The statistics of a list of stored numbers (own; undefined pixels by FITS Standard 4.0, 4.4.2.5).
use Rattle.std.specs.Prelude.{◌≡◌, ◌<◌, ◌^◌, ℤ, pos, ◌+ℤ◌, ◌*ℤ◌, Bool, false, not, ◌&&◌, Option, Some, None, List, [], ◌∷◌, length, filter, map, int_lt, FitsSigned, if◌then◌else◌}
use Rattle.std.specs.Int.{w64}
use Rattle.std.specs.Option.{option_map}
use Rattle.fits_pixels.specs.declared.pixel_summary.PixelSummary.{PixelSummary}
use Rattle.fits_pixels.specs.declared.value_summary.ValueSummary.{ValueSummary}
use Rattle.fits_pixels.specs.Summary.{all_joined, pixel_unit, pixels_joined, lesser, greater}

-- is this stored number the one that BLANK names?
abbrev pub is_blank : Option ℤ → ℤ → Bool
is_blank None x = false
is_blank (Some b) x = not (int_lt b x) && not (int_lt x b)

-- the numbers that BLANK doesn't name
abbrev pub defined_numbers : Option ℤ → List ℤ → List ℤ
defined_numbers blank xs = filter (λ x. not (is_blank blank x)) xs

-- the numbers added up
abbrev pub sum_of : List ℤ → ℤ
sum_of [] = pos 0
sum_of (x ∷ xs) = x +ℤ sum_of xs

-- the least number, None of no numbers
abbrev pub least_of : List ℤ → Option ℤ
least_of [] = None
least_of (x ∷ xs) = lesser (Some x) (least_of xs)

-- the greatest number, None of no numbers
abbrev pub greatest_of : List ℤ → Option ℤ
greatest_of [] = None
greatest_of (x ∷ xs) = greater (Some x) (greatest_of xs)

-- the statistics of stored numbers, exact: those that BLANK names are counted alone
abbrev pub statistics : Option ℤ → List ℤ → PixelSummary
statistics blank xs = let ds = defined_numbers blank xs in record {
  defined = length ds;
  blank = length (filter (is_blank blank) xs);
  least = least_of ds;
  greatest = greatest_of ds;
  sum = sum_of ds;
}

-- the summary of one stored number
abbrev pub number_summary : Option ℤ → ℤ → PixelSummary
number_summary blank x =
    if is_blank blank x
    then record { defined = 0; blank = 1; least = None; greatest = None; sum = pos 0 }
    else record { defined = 1; blank = 0; least = Some x; greatest = Some x; sum = x }

-- each number is a signed one of 64 bits
abbrev pub AllFit64 : List ℤ → Type 0
AllFit64 [] = Unit {0}
AllFit64 (x ∷ xs) = FitsSigned w64 x × AllFit64 xs

-- the summaries of fewer than 2^62 numbers are joined to their statistics, so no carry is lost
abbrev pub JoinedIsExact : Type 0
JoinedIsExact = (blank : Option ℤ) (xs : List ℤ) → AllFit64 xs → length xs < 2 ^ 62
    → all_joined pixel_unit pixels_joined (map (number_summary blank) xs) ≡ statistics blank xs

-- the statistics of the values of stored numbers, each the number and the offset (4.4.2.5): those that
-- BLANK names are counted alone
abbrev pub value_statistics : ℤ → Option ℤ → List ℤ → ValueSummary
value_statistics offset blank xs =
    let vs = map (λ x. x +ℤ offset) (defined_numbers blank xs) in record {
      defined = length vs;
      blank = length (filter (is_blank blank) xs);
      least = least_of vs;
      greatest = greatest_of vs;
      sum = sum_of vs;
    }

-- the summary of numbers, as that of each and the offset
abbrev pub summary_with : ℤ → PixelSummary → ValueSummary
summary_with offset s = record {
  defined = s.defined;
  blank = s.blank;
  least = option_map (λ x. x +ℤ offset) s.least;
  greatest = option_map (λ x. x +ℤ offset) s.greatest;
  sum = s.sum +ℤ pos s.defined *ℤ offset;
}

-- the statistics of numbers give those of their values
abbrev pub OffsetIsExact : Type 0
OffsetIsExact = (offset : ℤ) (blank : Option ℤ) (xs : List ℤ)
    → summary_with offset (statistics blank xs) ≡ value_statistics offset blank xs
