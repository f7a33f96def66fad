-- The number of a text that is an integer, as a function and as a relation.
use Rattle.std.proofs.Common.{◌≡◌, ℕ, ltb, Bool, List, Option, length, None, Some, sym, ◌∙◌, ap, inl, inr, ◌&&◌}
use Rattle.std.specs.Prelude.{ℤ, IfSome, IfNone, FitsSigned}
use Rattle.std.specs.Int.{w64}
use Rattle.std.specs.List.{list_all}
use Rattle.std.proofs.lemmas.Bool.{and_parts, and_from, cond-true, ltb-true, lt-ltb}
use Rattle.fits_value.proofs.FrontLemmas.{chosen}
use Rattle.fits_value.proofs.NumberLemmas.{signed_read, signed_found}
use Rattle.fits_value.specs.Spelling.{is_digit}
use Rattle.fits_value.specs.Number.{signed, value_of, IsIntegerOf}
use Rattle.fits_value.specs.NumberSteps.{is_minus, after_sign}
use Rattle.fits_value.specs.Says.{number_in, integer_in}

-- an integer's number is found
pub integer_said : (text : List ℕ) (n : ℤ) → IsIntegerOf text n → integer_in text ≡ Some n
unfolding integer_in
integer_said text n h =
    let read = signed_read text h.negative h.digits h.spelled in
    let some = h.spelled.are_digits in
    let found : number_in h.negative h.digits ≡ Some (signed h.negative (value_of h.digits)) =
    cond-true (ltb 0 (length h.digits) && list_all is_digit h.digits) _ _ (and_from _ _ (lt-ltb 0 (length h.digits) some.1) some.0) in
    sym (ap (λ (x : Bool). number_in x h.digits) read.0 ∙ ap (λ (x : List ℕ). number_in (is_minus text) x) read.1) ∙ (found ∙ ap Some (sym h.value))

-- a number that is found is the integer's
pub integer_told : (text : List ℕ) (n : ℤ) → integer_in text ≡ Some n → IsIntegerOf text n
unfolding integer_in
integer_told text n e =
    let digits = after_sign text in
    elim (chosen (ltb 0 (length digits) && list_all is_digit digits) (Some (signed (is_minus text) (value_of digits))) None (Some n) e) [
      | inl w ↦
          let both = and_parts (ltb 0 (length digits)) (list_all is_digit digits) w.0 in
          record { negative = is_minus text; digits = digits; spelled = signed_found text (both.1, ltb-true 0 (length digits) both.0); value = (let z = w.1 in (cc)) }
      | inr w ↦ absurd (let z = w.1 in (cc))
    ]

-- the number of what was read
pub some_integer : (text : List ℕ) (o : Option ℤ) → IfSome o (λ n. IsIntegerOf text n) → IfSome o (λ n. integer_in text ≡ Some n)
some_integer text None h = tt
some_integer text (Some n) h = integer_said text n h

-- where none was read, none fits
pub no_integer : (text : List ℕ) (o : Option ℤ) → ((n : ℤ) → IsIntegerOf text n → FitsSigned w64 n → o ≡ Some n) → IfNone o ((n : ℤ) → integer_in text ≡ Some n → FitsSigned w64 n → ⊥)
no_integer text None h = λ n e fits. let f = h n (integer_told text n e) fits in (cc)
no_integer text (Some m) h = tt
