-- Texts that denote the same number, however they are spelled (FITS Standard 4.0, sections 4.2.3 and 4.2.4).
use Rattle.std.specs.Prelude.{ℕ, ◌+◌, ◌*◌, ◌^◌, ◌==◌, ◌≡◌, ◌&&◌, ◌||◌, not, Bool, ℤ, IsTrue, List, ◌++◌, length, if◌then◌else◌}
use Rattle.fits_value.specs.Number.{IsDecimal, value_of, raised, lowered}
use Rattle.fits_value.specs.NumberSteps.{is_minus}
use Rattle.fits_value.specs.Says.{front_digits, back_digits, power_in, is_number}
use Rattle.fits_extended.specs.declared.digit_run.DigitRun.{DigitRun}
use Rattle.fits_extended.specs.declared.digit_sum.DigitSum.{DigitSum}
use Rattle.fits_extended.specs.declared.number_parts.NumberParts.{NumberParts}

-- a number: a whole one times ten to the power `up`, over ten to the power `down`, negative or not
pub record Scaled : Type 0 where
  pub negative : Bool
  pub whole : ℕ
  pub up : ℕ
  pub down : ℕ

-- the text is an integer or a real that denotes this number: its digits, with the point left out, times ten to the power
-- of its exponent, over ten to the power of how many digits stand after the point (4.2.3, 4.2.4)
pub record IsScaled (text : List ℕ) (number : Scaled) : Type 0 where
  pub front : List ℕ
  pub back : List ℕ
  pub power : ℤ
  pub spelled : IsDecimal text number.negative front back power
  pub whole : number.whole ≡ value_of (front ++ back)
  pub up : number.up ≡ raised power
  pub down : number.down ≡ length back + lowered power

-- two numbers have one size: as fractions, each numerator times the other's denominator
abbrev pub is_same_size : Scaled → Scaled → Bool
is_same_size a b = a.whole * 10 ^ (a.up + b.down) == b.whole * 10 ^ (b.up + a.down)

-- two signs are the same
abbrev pub is_same_sign : Bool → Bool → Bool
is_same_sign negative other = if negative then other else not other

-- two numbers are the same: of one size, and of one sign where they aren't 0
abbrev pub are_same : Scaled → Scaled → Bool
are_same a b = is_same_size a b && ((a.whole == 0) || is_same_sign a.negative b.negative)

-- two texts are integers or reals that denote the same number
pub record DenoteSame (a b : List ℕ) : Type 0 where
  pub first : Scaled
  pub second : Scaled
  pub is_first : IsScaled a first
  pub is_second : IsScaled b second
  pub same : IsTrue (are_same first second)

-- the number that a text denotes which is one
abbrev pub scaled_in : List ℕ → Scaled
scaled_in text = record {
  negative = is_minus text;
  whole = value_of (front_digits text ++ back_digits text);
  up = raised (power_in text);
  down = length (back_digits text) + lowered (power_in text);
}

-- two texts denote the same number, as a function
unfoldable pub denote_same : List ℕ → List ℕ → Bool
denote_same a b = is_number a && (is_number b && are_same (scaled_in a) (scaled_in b))

-- the number of these parts
abbrev pub scaled_of : NumberParts → Scaled
scaled_of parts = record {
  negative = parts.is_negative;
  whole = value_of (parts.front.now ++ parts.back.now);
  up = value_of parts.up.now;
  down = length parts.back.now + value_of parts.down.now;
}

-- the whole number of digits in two runs
abbrev pub value_of_run : DigitRun → ℕ
value_of_run run = value_of (run.front.now ++ run.back.now)

-- how many digits there are
abbrev pub length_of_run : DigitRun → ℕ
length_of_run run = length run.front.now + length run.back.now

-- the sum of three numbers
abbrev pub value_of_sum : DigitSum → ℕ
value_of_sum sum = value_of sum.first.now + value_of sum.second.now + sum.more

-- how many digits are left of it
abbrev pub length_of_sum : DigitSum → ℕ
length_of_sum sum = length sum.first.now + length sum.second.now
