-- Whether a text denotes a number, as a function and as a relation.
use Rattle.std.proofs.Common.{◌≡◌, ℕ, zero, suc, ◌+◌, ltb, eqb, Bool, true, false, List, [], ◌++◌, length, sym, ◌∙◌, ap, subst, refl, arith, ◌&&◌}
use Rattle.std.specs.Prelude.{ℤ, pos, negsuc, ◌↔◌, IsTrue, unsigned_abs}
use Rattle.std.specs.Cmp.{both_ways}
use Rattle.std.proofs.lemmas.Bool.{and_parts, and_from, false≢true, ltb-true, lt-ltb, eqb-true, eq-eqb}
use Rattle.std.proofs.lemmas.List.{append-nil, nil_from_length}
use Rattle.fits_value.proofs.NumberLemmas.{IsRead, decimal_read, decimal_begins, denotes_size}
use Rattle.fits_value.specs.Number.{signed, IsDecimal, Denotes}
use Rattle.fits_value.specs.NumberSteps.{is_minus, after_sign, is_lowered, exponent_digits, after_exponent}
use Rattle.fits_value.specs.Says.{front_digits, after_front, back_digits, after_back, power_in, is_number, agrees_in_sign, is_exactly, says_number}

-- a number agrees in its sign where it is its size with that sign
sign_agrees : (negative : Bool) (number : ℤ) → (agrees_in_sign negative number ≡ true) ↔ (number ≡ signed negative (unsigned_abs number))
sign_agrees true (pos zero) = (λ e. refl, λ e. refl)
sign_agrees true (pos (suc n)) = (λ e. absurd (let z = eqb-true (suc n) 0 e in omega arith), λ e. absurd (let z : pos (suc n) ≡ negsuc n = e in (cc)))
sign_agrees true (negsuc n) = (λ e. refl, λ e. refl)
sign_agrees false (pos n) = (λ e. refl, λ e. refl)
sign_agrees false (negsuc n) = (λ e. absurd (false≢true e), λ e. absurd (let z : negsuc n ≡ pos (suc n) = e in (cc)))

-- the parts of a number are those of a decimal
parts_found : (text : List ℕ) → is_number text ≡ true → IsDecimal text (is_minus text) (front_digits text) (back_digits text) (power_in text)
parts_found text e =
    let last = after_back text in
    let both = and_parts (ltb 0 (length (front_digits text) + length (back_digits text))) (eqb (length (after_exponent last)) 0) e in
    let found = decimal_begins text (after_sign text) (front_digits text) (after_front text) (back_digits text) last (exponent_digits last) (after_exponent last) (is_minus text) (is_lowered last)
    refl refl refl refl refl refl refl refl refl (ltb-true 0 (length (front_digits text) + length (back_digits text)) both.0) in
    let none : after_exponent last ≡ [] = nil_from_length (after_exponent last) (eqb-true (length (after_exponent last)) 0 both.1) in
    let whole : found.spelling ≡ text = sym (append-nil found.spelling) ∙ (ap (λ (z : List ℕ). found.spelling ++ z) (sym none) ∙ sym found.parts) in
    subst (λ (z : List ℕ). IsDecimal z (is_minus text) (front_digits text) (back_digits text) (power_in text)) whole found.is_decimal

-- a decimal is a number
decimal_is : (text : List ℕ) (negative : Bool) (front back : List ℕ) (power : ℤ) → IsDecimal text negative front back power → is_number text ≡ true
decimal_is text negative front back power d =
    let last = d.exponent ++ [] in
    let read = subst (λ (z : List ℕ). IsRead z negative front back (d.point ++ last) last []) (append-nil text) (decimal_read text [] negative front back power d tt) in
    and_from _ _
    (lt-ltb 0 (length (front_digits text) + length (back_digits text)) (omega (arith, d.some, ap length read.is_front, ap length read.is_back)))
    (eq-eqb (length (after_exponent (after_back text))) 0 (sym (ap length read.is_rest)))

-- a text denotes a number exactly where it says it
pub number_says : (text : List ℕ) (number : ℤ) → IsTrue (says_number text number) ↔ Denotes text number
unfolding says_number
number_says text number =
    let negative = is_minus text in
    let sign = agrees_in_sign negative number in
    let exact = is_exactly (front_digits text) (back_digits text) (power_in text) (unsigned_abs number) in (
      λ e. let both = and_parts (is_number text) (sign && exact) e in
          let two = and_parts sign exact both.1 in
          (denotes_size text negative (front_digits text) (back_digits text) (power_in text) number (parts_found text both.0)).0 ((sign_agrees negative number).0 two.0, eqb-true _ _ two.1),
      λ w. let is = decimal_is text w.negative w.front w.back w.power w.spelled in
          let two = (denotes_size text negative (front_digits text) (back_digits text) (power_in text) number (parts_found text is)).1 w in
          and_from (is_number text) (sign && exact) is (and_from sign exact ((sign_agrees negative number).1 two.0) (eq-eqb _ _ two.1)),
    )

-- so a test of the one is the other
pub number_said : (text : List ℕ) (number : ℤ) (b : Bool) → (IsTrue b ↔ Denotes text number) → b ≡ says_number text number
number_said text number b e =
    let says = number_says text number in
    both_ways b (says_number text number) (λ yes. says.1 (e.0 yes)) (λ yes. e.1 (says.0 yes))
