-- Summaries of parts, which can be joined: what they owe, and the three kinds (own).
use Rattle.std.specs.Prelude.{◌≡◌, ◌<◌, ℕ, ◌+◌, ◌%◌, ◌^◌, ℤ, pos, ◌+ℤ◌, Option, Some, None, List, [], ◌∷◌, FitsSigned}
use Rattle.std.specs.Int.{int_min, int_max, int_wrap, w128}
use Rattle.fits_pixels.specs.declared.pixel_summary.PixelSummary.{PixelSummary}
use Rattle.fits_pixels.specs.declared.word_summary.WordSummary.{WordSummary}
use Rattle.fits_pixels.specs.declared.both.Both.{Both}

-- `unit` is neutral beside a value that fits, and the order in which values are joined is free
pub record SummaryLaws {S : Type 0} (unit : S) (join : S → S → S) (fits : S → Type 0) : Type 0 where
  pub unit_fits : fits unit
  pub join_fits : (x y : S) → fits x → fits y → fits (join x y)
  pub left_unit : (x : S) → fits x → join unit x ≡ x
  pub right_unit : (x : S) → fits x → join x unit ≡ x
  pub assoc : (x y z : S) → join (join x y) z ≡ join x (join y z)

-- the values joined in order, and `unit` of no values
abbrev pub all_joined : {S : Type 0} → S → (S → S → S) → List S → S
all_joined unit join [] = unit
all_joined unit join (x ∷ xs) = join x (all_joined unit join xs)

-- the sum of two numbers of 64 bits, with a carry out of them left out
abbrev pub added : ℕ → ℕ → ℕ
added a b = (a + b) % 2 ^ 64

-- the sum of two numbers of 128 bits, signed, with a carry out of them left out
abbrev pub sum_added : ℤ → ℤ → ℤ
sum_added a b = int_wrap w128 (a +ℤ b)

-- the lesser of two numbers, where each may be missing
abbrev pub lesser : Option ℤ → Option ℤ → Option ℤ
lesser None y = y
lesser (Some a) None = Some a
lesser (Some a) (Some b) = Some (int_min a b)

-- the greater of two numbers, where each may be missing
abbrev pub greater : Option ℤ → Option ℤ → Option ℤ
greater None y = y
greater (Some a) None = Some a
greater (Some a) (Some b) = Some (int_max a b)

-- the summary of no words
abbrev pub word_unit : WordSummary
word_unit = record { total = 0 }

-- the summary of the words of two parts
abbrev pub words_joined : WordSummary → WordSummary → WordSummary
words_joined x y = record { total = added x.total y.total }

-- the total is a number of 64 bits
abbrev pub WordFits : WordSummary → Type 0
WordFits x = x.total < 2 ^ 64

-- the summary of no pixels
abbrev pub pixel_unit : PixelSummary
pixel_unit = record { defined = 0; blank = 0; least = None; greatest = None; sum = pos 0 }

-- the summary of the pixels of two parts
abbrev pub pixels_joined : PixelSummary → PixelSummary → PixelSummary
pixels_joined x y = record {
  defined = added x.defined y.defined;
  blank = added x.blank y.blank;
  least = lesser x.least y.least;
  greatest = greater x.greatest y.greatest;
  sum = sum_added x.sum y.sum;
}

-- the counts are numbers of 64 bits, and the sum is a signed one of 128 bits
pub record PixelFits (x : PixelSummary) : Type 0 where
  pub defined : x.defined < 2 ^ 64
  pub blank : x.blank < 2 ^ 64
  pub sum : FitsSigned w128 x.sum

-- two summaries side by side
abbrev pub side_by_side : {A B : Type 0} → A → B → Both A B
side_by_side a b = record { first = a; second = b }

-- both halves are joined
abbrev pub halves_joined : {A B : Type 0} → (A → A → A) → (B → B → B)
    → Both A B → Both A B → Both A B
halves_joined j k x y = record { first = j x.first y.first; second = k x.second y.second }

-- both halves fit
abbrev pub HalvesFit : {A B : Type 0} → (A → Type 0) → (B → Type 0) → Both A B → Type 0
HalvesFit p q x = p x.first × q x.second
