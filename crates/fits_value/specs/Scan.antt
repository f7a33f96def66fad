-- The scanner's steps, as functions on lists (own). What texts and cards say is computed by them, and `laws` tie
-- that to the relations of Field, Value and LongString, which are the definitions.
use Rattle.std.specs.Prelude.{ℕ, ◌≤◌, ◌+◌, ◌-◌, ◌&&◌, ◌||◌, ◌==◌, List, [], ◌∷◌, length, drop, Option, None, Some, if◌then◌else◌}
use Rattle.std.specs.List.{prefix_len, suffix_len, take_while}
use Rattle.std.specs.Option.{option_map}
use Rattle.fits_value.specs.Spelling.{is_space, is_digit}
use Rattle.fits_value.specs.NumberSteps.{after_sign, after_digits, fraction_digits, after_fraction, after_exponent}
use Rattle.fits_value.specs.declared.reading.ValueKind.{ValueKind}
use Rattle.fits_value.specs.declared.reading.ValueKind.TheVariants.{Undefined, Logical, Integer, Real, Complex, Str}
use Rattle.fits_value.specs.declared.reading.Span.{Span}
use Rattle.fits_value.specs.declared.reading.Reading.{Reading}
use Rattle.fits_value.specs.declared.scan_complex.Element.{Element}
use Rattle.fits_value.specs.declared.scan_complex.Pair.{Pair}

-- the place of the quote that closes a string, whose opening quote stands before the list
abbrev pub closing_of : List ℕ → Option ℕ
closing_of [] = None
closing_of (b ∷ []) = if b == 39 then Some 0 else None
closing_of (b ∷ c ∷ s) = if b == 39 then (if c == 39 then option_map (λ n. n + 2) (closing_of s) else Some 0) else option_map (λ n. n + 1) (closing_of (c ∷ s))

-- the kind and the bytes of a number by its digits before and after the point, what follows the first
-- of these, what follows the number, and the length of all
abbrev pub number_by : List ℕ → List ℕ → List ℕ → List ℕ → ℕ → Option (ValueKind × ℕ)
number_by front back tail rest size =
    if (length front == 0) && (length back == 0)
    then None
    else Some (if length rest == length tail then Integer else Real, size - length rest)

-- the kind and the bytes of the number at the front
unfoldable pub number_of : List ℕ → Option (ValueKind × ℕ)
number_of text =
    let tail = after_digits (after_sign text) in
    number_by (take_while is_digit (after_sign text)) (fraction_digits tail) tail (after_exponent (after_fraction tail)) (length text)

-- the number after so many spaces, and how far it goes with the spaces after it
abbrev pub element_at : ℕ → List ℕ → Option (ValueKind × ℕ) → Option Element
element_at before s None = None
element_at before s (Some number) =
    Some (record { start = before; end = before + number.1; len = before + number.1 + prefix_len is_space (drop number.1 s) })

-- spaces, a number and spaces at the front
unfoldable pub element_of : List ℕ → Option Element
element_of s =
    let before = prefix_len is_space s in
    element_at before (drop before s) (number_of (drop before s))

-- the parts of a pair stand within it
pub record IsOrdered (pair : Pair) : Type 0 where
  pub real : pair.real.start ≤ pair.real.end
  pub real_end : pair.real.end ≤ pair.len
  pub imaginary : pair.imaginary.start ≤ pair.imaginary.end
  pub imaginary_end : pair.imaginary.end ≤ pair.len

-- the pair of two elements, where a closing bracket follows
abbrev pub closed_of : Element → Element → List ℕ → Option Pair
closed_of real imaginary [] = None
closed_of real imaginary (b ∷ s) = if b == 41 then Some (record {
  real = record { start = 1 + real.start; end = 1 + real.end };
  imaginary = record { start = 2 + real.len + imaginary.start; end = 2 + real.len + imaginary.end };
  len = 3 + real.len + imaginary.len;
}) else None

-- the pair of an element and the one at the front
abbrev pub second_of : Element → List ℕ → Option Element → Option Pair
second_of real s None = None
second_of real s (Some imaginary) = closed_of real imaginary (drop imaginary.len s)

-- the pair of an element and the one after a comma
abbrev pub comma_of : Element → List ℕ → Option Pair
comma_of real [] = None
comma_of real (b ∷ s) = if b == 44 then second_of real s (element_of s) else None

-- the pair whose first element stands at the front
abbrev pub first_of : List ℕ → Option Element → Option Pair
first_of s None = None
first_of s (Some real) = comma_of real (drop real.len s)

-- the complex number whose opening bracket stands before the list
unfoldable pub pair_of : List ℕ → Option Pair
pair_of s = first_of s (element_of s)

-- the kind and the bytes of the value at the front of a list that begins with no space
unfoldable pub front_value : List ℕ → Option (ValueKind × ℕ)
front_value [] = Some (Undefined, 0)
front_value (b ∷ s) =
    if b == 47 then Some (Undefined, 0)
    else (if b == 39 then option_map (λ n. (Str, n + 2)) (closing_of s)
    else (if (b == 84) || (b == 70) then Some (Logical, 1)
    else (if b == 40 then option_map (λ pair. (Complex, pair.len)) (pair_of s)
    else number_of (b ∷ s))))

-- where a value stands that begins at a place
abbrev pub value_span : ValueKind → ℕ → ℕ → Span
value_span Undefined start len = record { start = 0; end = 0 }
value_span kind start len = record { start = start; end = start + len }

-- the reading that an ending gives, which begins at n
abbrev pub ending_of : ValueKind → Span → ℕ → List ℕ → Option Reading
ending_of kind value n [] = Some (record { kind = kind; value = value; comment = None })
ending_of kind value n (c ∷ s) =
    if c == 47
    then Some (record { kind = kind; value = value; comment = Some (record { start = n + 1; end = n + 1 + (length s - suffix_len is_space s) }) })
    else None

-- the reading of what follows a value, which begins at n
abbrev pub rest_of : ValueKind → Span → ℕ → List ℕ → Option Reading
rest_of kind value n rest = ending_of kind value (n + prefix_len is_space rest) (drop (prefix_len is_space rest) rest)

-- the reading of a text whose value was taken
abbrev pub valued_of : ℕ → List ℕ → Option (ValueKind × ℕ) → Option Reading
valued_of start body None = None
valued_of start body (Some v) = rest_of v.0 (value_span v.0 start v.1) (start + v.1) (drop v.1 body)

-- the kind and the spans of a field
unfoldable pub reading_of : List ℕ → Option Reading
reading_of text =
    let start = prefix_len is_space text in
    valued_of start (drop start text) (front_value (drop start text))

-- the characters of a spelling: the byte after a quote is passed over
abbrev pub undoubled : List ℕ → List ℕ
undoubled [] = []
undoubled (b ∷ []) = b ∷ []
undoubled (b ∷ c ∷ s) = if b == 39 then b ∷ undoubled s else b ∷ undoubled (c ∷ s)

-- the same span in a text with ten bytes more at its front
abbrev pub moved_span : Span → Span
moved_span span = record { start = 10 + span.start; end = 10 + span.end }

-- the same reading in such a text
abbrev pub moved_reading : Reading → Reading
moved_reading reading = record { kind = reading.kind; value = moved_span reading.value; comment = option_map moved_span reading.comment }
