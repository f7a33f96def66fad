-- A summary of which a part went and another came in its place (own).
use Rattle.std.specs.Prelude.{◌≡◌, ℕ, ◌+◌, ◌-◌, ◌%◌, ◌^◌, ℤ, ◌-ℤ◌}
use Rattle.std.specs.Int.{int_wrap, w128}
use Rattle.fits_pixels.specs.declared.pixel_summary.PixelSummary.{PixelSummary}
use Rattle.fits_pixels.specs.declared.word_summary.WordSummary.{WordSummary}
use Rattle.fits_pixels.specs.declared.both.Both.{Both}
use Rattle.fits_pixels.specs.Summary.{pixels_joined, words_joined, halves_joined}

-- one number of 64 bits less another, with a borrow left out
abbrev pub taken : ℕ → ℕ → ℕ
taken a b = (a + (2 ^ 64 - b)) % 2 ^ 64

-- one number of 128 bits, signed, less another, with a borrow left out
abbrev pub sum_taken : ℤ → ℤ → ℤ
sum_taken a b = int_wrap w128 (a -ℤ b)

-- a part is counted no more; the least and the greatest stay those of all
abbrev pub pixels_without : PixelSummary → PixelSummary → PixelSummary
pixels_without all gone = record {
  defined = taken all.defined gone.defined;
  blank = taken all.blank gone.blank;
  least = all.least;
  greatest = all.greatest;
  sum = sum_taken all.sum gone.sum;
}

-- the words of a part are counted no more
abbrev pub words_without : WordSummary → WordSummary → WordSummary
words_without all gone = record { total = taken all.total gone.total }

-- what is kept of two parts, joined
abbrev pub leaves_joined : Both PixelSummary WordSummary → Both PixelSummary WordSummary
    → Both PixelSummary WordSummary
leaves_joined x y = halves_joined pixels_joined words_joined x y

-- whatever stands before and after the part that went, all is now joined with what came in its place
abbrev pub IsExchanged : (all gone come new : Both PixelSummary WordSummary) → Type 0
IsExchanged all gone come new = (before after : Both PixelSummary WordSummary)
    → all ≡ leaves_joined before (leaves_joined gone after)
    → new ≡ leaves_joined before (leaves_joined come after)
