-- The numbers of digits alone.
use Rattle.std.proofs.Common.{◌≡◌, ℕ, ◌≤◌, Bool, true, false, List, [], ◌∷◌, Option, None, Some, option_and_then, refl, ap, sym, ◌∙◌, leb, inl, inr, arith}
use Rattle.std.specs.Prelude.{ℤ, pos, negsuc, FitsSigned}
use Rattle.std.specs.Int.{w64}
use Rattle.std.specs.List.{list_all}
use Rattle.std.proofs.lemmas.Bool.{and_parts, cases_Bool, cond-false, leb-true}
use Rattle.std.proofs.lemmas.Bool.Decides.{nat_tests}
use Rattle.fits_value.specs.Characters.{is_digit}
use Rattle.fits_value.specs.NumberSteps.{after_sign}
use Rattle.fits_value.specs.Says.{number_in, integer_in}
use Rattle.fits_value.proofs.NumberLemmas.{digit_no_sign, no_sign}
use Rattle.fits_rules.specs.Shape.{up_to}
use Rattle.fits_table.specs.Numeral.{numeral}

-- digits alone are an integer without a sign
same_number : (text : List ℕ) → list_all is_digit text ≡ true → integer_in text ≡ number_in false text
unfolding integer_in
same_number [] all = refl
same_number (b ∷ text) all =
    let s = no_sign (b ∷ text) (digit_no_sign b (and_parts (is_digit b) (list_all is_digit text) all).0) in
    ap (λ (n : Bool). number_in n (after_sign (b ∷ text))) (sym s.0) ∙ ap (number_in false) (sym s.1)

-- a text with another byte has no number
pub not_digits : (text : List ℕ) → list_all is_digit text ≡ false → None ≡ numeral text
unfolding numeral
not_digits text other = grind (arith, other)

-- the number of an integer of digits
pub digits_number : (text : List ℕ) (number : ℤ) → list_all is_digit text ≡ true → integer_in text ≡ Some number → numeral text ≡ up_to 9223372036854775807 number
unfolding numeral
digits_number text number all is = ap (option_and_then (up_to 9223372036854775807)) (sym (same_number text all) ∙ is)

-- a number of 63 bits fits
small_fits : (n : ℕ) → n ≤ 9223372036854775807 → FitsSigned w64 (pos n)
small_fits n small = record { sfits = grind (arith, nat_tests) }

-- where no number fits
too_large : (o : Option ℤ) → ((number : ℤ) → o ≡ Some number → FitsSigned w64 number → ⊥) → None ≡ option_and_then (up_to 9223372036854775807) o
too_large None none = refl
too_large (Some (pos n)) none = elim (cases_Bool (leb n 9223372036854775807)) [
  | inl holds ↦ absurd (none (pos n) refl (small_fits n (leb-true n 9223372036854775807 holds)))
  | inr fails ↦ sym (cond-false (leb n 9223372036854775807) (Some n) None fails)
]
too_large (Some (negsuc n)) none = refl

-- digits of a number that doesn't fit
pub large_number : (text : List ℕ) → list_all is_digit text ≡ true → ((number : ℤ) → integer_in text ≡ Some number → FitsSigned w64 number → ⊥) → None ≡ numeral text
unfolding numeral
large_number text all none = too_large (number_in false text) (λ number e fits. none number (same_number text all ∙ e) fits)

pub ruleset numeral_steps = (not_digits, digits_number, large_number)
