-- A text has the number that it is read as.
use Rattle.std.proofs.Common.{◌≡◌, ℕ, ◌≤◌, Bool, true, false, ◌&&◌, cond, leb, ltb, List, length, Option, None, Some, option_and_then, refl, ap, ◌∙◌, arith}
use Rattle.std.specs.Prelude.{pos}
use Rattle.std.specs.List.{list_all}
use Rattle.std.proofs.lemmas.Bool.{and_parts, and_from, cond-true, le-leb, leb-true, lt-ltb, ltb-true}
use Rattle.fits_value.specs.Characters.{is_digit}
use Rattle.fits_value.specs.Number.{value_of}
use Rattle.fits_rules.specs.Shape.{up_to}
use Rattle.fits_table.specs.Numeral.{IsNumeral, numeral}

-- a numeral is read
pub numeral_read : (text : List ℕ) (number : ℕ) → IsNumeral text number → numeral text ≡ Some number
unfolding numeral
numeral_read text number is =
    let spelled = and_from (ltb 0 (length text)) (list_all is_digit text) (lt-ltb 0 (length text) is.digits.1) is.digits.0 in
    let value : value_of text ≡ number = is.value in
    let small : leb (value_of text) 9223372036854775807 ≡ true = le-leb (value_of text) 9223372036854775807 (omega (arith, is.small, value)) in
    ap (option_and_then (up_to 9223372036854775807)) (cond-true (ltb 0 (length text) && list_all is_digit text) (Some (pos (value_of text))) None spelled)
    ∙ (cond-true (leb (value_of text) 9223372036854775807) (Some (value_of text)) None small ∙ ap Some value)

-- a number up to a limit
small_found : (b : Bool) (value number : ℕ) → leb value 9223372036854775807 ≡ b → cond b (Some value) None ≡ Some number → (value ≡ number) × (number ≤ 9223372036854775807)
small_found true value number is e =
    let same : value ≡ number = cc in
    (same, omega (arith, same, leb-true value 9223372036854775807 is))
small_found false value number is e = absurd (let none : ◌≡◌ {A = Option ℕ} None (Some number) = e in cc)

-- the same of digits
digits_found : (b : Bool) (value number : ℕ) → option_and_then (up_to 9223372036854775807) (cond b (Some (pos value)) None) ≡ Some number → (b ≡ true) × (value ≡ number) × (number ≤ 9223372036854775807)
digits_found true value number e =
    let found = small_found (leb value 9223372036854775807) value number refl e in
    (refl, found.0, found.1)
digits_found false value number e = absurd (let none : ◌≡◌ {A = Option ℕ} None (Some number) = e in cc)

-- what is read is a numeral
pub numeral_found : (text : List ℕ) (number : ℕ) → numeral text ≡ Some number → IsNumeral text number
unfolding numeral
numeral_found text number e =
    let found = digits_found (ltb 0 (length text) && list_all is_digit text) (value_of text) number e in
    let spelled = and_parts (ltb 0 (length text)) (list_all is_digit text) found.0 in
    record { digits = (spelled.1, ltb-true 0 (length text) spelled.0); value = found.1; small = found.2 }
