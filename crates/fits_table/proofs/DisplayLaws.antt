-- A text is spelled as each way of display that it is read as.
use Rattle.std.proofs.Common.{◌≡◌, ℕ, ◌==◌, ◌||◌, true, false, List, [], ◌∷◌, ◌++◌, length, take, drop, bytes_eq, Option, None, Some, refl, ap, sym, ◌∙◌, append_assoc}
use Rattle.std.specs.Prelude.{IsTrue, is_some}
use Rattle.std.specs.List.{list_all, take_while, prefix_len}
use Rattle.std.proofs.Math.Seq.{take-append_seam, drop-append_seam}
use Rattle.std.proofs.lemmas.Bool.{and_parts, and_from, eqb-true}
use Rattle.std.proofs.lemmas.List.{take-append-drop}
use Rattle.std.proofs.lemmas.Slice.Eq.{bytes_eq-Decides}
use Rattle.fits_value.specs.Characters.{is_digit}
use Rattle.fits_value.specs.NumberSteps.{after_digits}
use Rattle.fits_value.proofs.FrontLemmas.{Stops}
use Rattle.fits_value.proofs.NumberLemmas.{front_taken}
use Rattle.fits_table.specs.Display.{display_letters, is_numeral, is_nothing, is_point, is_point_exponent, may_follow, IsDisplay, has_width, is_display}
use Rattle.fits_table.specs.Laws.{DisplaysAreReadExactly}
use Rattle.fits_table.specs.Numeral.{numeral}
use Rattle.fits_table.specs.declared.display.Display.{Display}
use Rattle.fits_table.specs.declared.display.Display.TheVariants as display
use Rattle.fits_table.proofs.NumeralLaws.{numeral_found}

-- nothing ends digits
nothing_stops : (rest : List ℕ) → is_nothing rest ≡ true → Stops is_digit rest
nothing_stops [] holds = tt
nothing_stops (byte ∷ rest) holds = absurd (let wrong : false ≡ true = holds in cc)

-- a point does
byte_stops : (byte : ℕ) → (byte == 46) ≡ true → is_digit byte ≡ false
byte_stops byte is = ap is_digit (eqb-true byte 46 is)

-- so does a number after a point
point_stops : (rest : List ℕ) → is_point rest ≡ true → Stops is_digit rest
point_stops [] holds = tt
point_stops (byte ∷ rest) holds = byte_stops byte (and_parts (byte == 46) (is_numeral rest) holds).0

-- with an exponent too
exponent_stops : (rest : List ℕ) → is_point_exponent rest ≡ true → Stops is_digit rest
exponent_stops [] holds = tt
exponent_stops (byte ∷ rest) holds = byte_stops byte (and_parts (byte == 46) _ holds).0

-- or nothing at all
either_stops : (rest : List ℕ) → (is_nothing rest || is_point rest) ≡ true → Stops is_digit rest
either_stops [] holds = tt
either_stops (byte ∷ rest) holds = point_stops (byte ∷ rest) holds

-- what may follow a width ends it
follow_stops : (way : Display) (rest : List ℕ) → may_follow way rest ≡ true → Stops is_digit rest
follow_stops display.Text rest holds = nothing_stops rest holds
follow_stops display.Logical rest holds = nothing_stops rest holds
follow_stops display.Whole rest holds = either_stops rest holds
follow_stops display.Binary rest holds = either_stops rest holds
follow_stops display.Octal rest holds = either_stops rest holds
follow_stops display.Hexadecimal rest holds = either_stops rest holds
follow_stops display.Fixed rest holds = point_stops rest holds
follow_stops display.Exponential rest holds = exponent_stops rest holds
follow_stops display.Engineering rest holds = point_stops rest holds
follow_stops display.Scientific rest holds = point_stops rest holds
follow_stops display.General rest holds = exponent_stops rest holds
follow_stops display.Double rest holds = exponent_stops rest holds

-- a number that is there
number_there : (o : Option ℕ) → is_some o ≡ true → (n : ℕ) × (o ≡ Some n)
number_there None holds = absurd (let wrong : false ≡ true = holds in cc)
number_there (Some n) holds = (n, refl)

-- is of digits
numeral_digits : (text : List ℕ) → is_numeral text ≡ true → list_all is_digit text ≡ true
numeral_digits text holds = let there = number_there (numeral text) holds in (numeral_found text there.0 there.1).digits.0

-- a width is read
width_read : (way : Display) (width rest : List ℕ) → is_numeral width ≡ true → may_follow way rest ≡ true → has_width way (width ++ rest) ≡ true
width_read way width rest is follows =
    let taken = front_taken is_digit width rest (numeral_digits width is) (follow_stops way rest follows) in
    and_from _ _ (ap is_numeral (sym taken.0) ∙ is) (ap (may_follow way) (sym taken.1) ∙ follows)

-- letters are read
letters_read : (text : List ℕ) (way : Display) → IsDisplay text way → IsTrue (is_display text way)
unfolding is_display
letters_read text way is =
    let letters = display_letters way in
    let parts : text ≡ letters ++ (is.width ++ is.rest) = is.parts ∙ append_assoc letters is.width is.rest in
    let front : take (length letters) text ≡ letters = ap (take (length letters)) parts ∙ take-append_seam letters (is.width ++ is.rest) in
    let behind : drop (length letters) text ≡ is.width ++ is.rest = ap (drop (length letters)) parts ∙ drop-append_seam letters (is.width ++ is.rest) in
    and_from _ _ ((bytes_eq-Decides (take (length letters) text) letters).1 front) (ap (has_width way) behind ∙ width_read way is.width is.rest is.is_width is.follows)

-- what is read is spelled so
letters_found : (text : List ℕ) (way : Display) → IsTrue (is_display text way) → IsDisplay text way
unfolding is_display
letters_found text way holds =
    let letters = display_letters way in
    let both = and_parts (bytes_eq (take (length letters) text) letters) (has_width way (drop (length letters) text)) holds in
    let front : take (length letters) text ≡ letters = (bytes_eq-Decides (take (length letters) text) letters).0 both.0 in
    let behind = drop (length letters) text in
    let sized = and_parts (is_numeral (take_while is_digit behind)) (may_follow way (after_digits behind)) both.1 in
    record {
      width = take_while is_digit behind;
      rest = after_digits behind;
      is_width = sized.0;
      follows = sized.1;
      parts = sym (take-append-drop (length letters) text) ∙ (ap (λ (first : List ℕ). first ++ behind) front ∙ (ap (λ (last : List ℕ). letters ++ last) (sym (take-append-drop (prefix_len is_digit behind) behind)) ∙ sym (append_assoc letters (take_while is_digit behind) (after_digits behind))));
    }

-- both
pub displays : DisplaysAreReadExactly
displays text way = (letters_read text way, letters_found text way)
