-- The first byte of a number.
use Rattle.std.proofs.Common.{◌≡◌, ℕ, ◌<◌, true, false, eqb, List, [], ◌∷◌, ◌++◌, length, refl, sym, ◌∙◌, ap, subst, arith, inl, inr, ◌⊎◌, append_assoc}
use Rattle.std.proofs.lemmas.Bool.{and_parts, ne_eqb, leb-true}
use Rattle.std.specs.Prelude.{Bool, ℤ}
use Rattle.fits_value.specs.Spelling.{is_space, is_digit, IsDigits}
use Rattle.fits_value.specs.Number.{IsSignOf, IsDecimal, IsNumber}
use Rattle.fits_value.proofs.FrontLemmas.{Stops}
use Rattle.fits_value.proofs.NumberLemmas.{number_decimal}

-- the first byte of a number: a digit, a point or a sign
abbrev pub IsFirst : ℕ → Type 0
IsFirst b = (is_digit b ≡ true) ⊎ ((b ≡ 46) ⊎ ((b ≡ 43) ⊎ (b ≡ 45)))

-- no number begins with a byte that begins another value
pub first_is_not : (b n : ℕ) → IsFirst b → (n ≡ 47) ⊎ ((n ≡ 39) ⊎ ((n ≡ 84) ⊎ ((n ≡ 70) ⊎ (n ≡ 40)))) → eqb b n ≡ false
first_is_not b n (inl d) c = let both = and_parts _ _ d in let low = leb-true 48 b both.0 in let high = leb-true b 57 both.1 in ne_eqb b n (λ e. omega arith)
first_is_not b n (inr d) c = ne_eqb b n (λ e. omega arith)

-- a list that begins with the first byte of a number
pub record Begins (s : List ℕ) : Type 0 where
  pub head : ℕ
  pub tail : List ℕ
  pub is : s ≡ head ∷ tail
  pub first : IsFirst head

-- digits begin so
begins_digits : (d r : List ℕ) → IsDigits d → 0 < length d → Begins (d ++ r)
begins_digits [] r d n = absurd (omega arith)
begins_digits (b ∷ s) r d n = record { head = b; tail = s ++ r; is = refl; first = inl (and_parts (is_digit b) _ d).0 }

-- a sign before them begins so
begins_sign : (g s : List ℕ) (negative : Bool) → IsSignOf g negative → Begins s → Begins (g ++ s)
begins_sign g s true e h = record { head = 45; tail = s; is = ap (λ (x : List ℕ). x ++ s) e; first = inr (inr (inr refl)) }
begins_sign g s false (inl e) h = subst (λ (x : List ℕ). Begins (x ++ s)) (sym e) h
begins_sign g s false (inr e) h = record { head = 43; tail = s; is = ap (λ (x : List ℕ). x ++ s) e; first = inr (inr (inl refl)) }

-- digits, or none, and a point begin so
begins_point : (d t : List ℕ) → IsDigits d → Begins (d ++ 46 ∷ t)
begins_point [] t d = record { head = 46; tail = t; is = refl; first = inr (inl refl) }
begins_point (b ∷ s) t d = record { head = b; tail = s ++ 46 ∷ t; is = refl; first = inl (and_parts (is_digit b) _ d).0 }

-- the same list by another name
begins_same : (s t : List ℕ) → s ≡ t → Begins t → Begins s
begins_same s t e h = subst (λ (x : List ℕ). Begins x) (sym e) h

-- a decimal begins so
begins_decimal : (v r : List ℕ) (negative : Bool) (front back : List ℕ) (power : ℤ) → IsDecimal v negative front back power → Begins (v ++ r)
begins_decimal v r negative front back power w =
    let rest = w.exponent ++ r in
    begins_same _ _ (ap (λ (y : List ℕ). y ++ r) w.parts ∙ (append_assoc (w.sign ++ front ++ w.point) w.exponent r ∙ (append_assoc (w.sign ++ front) w.point rest ∙ append_assoc w.sign front (w.point ++ rest))))
    (begins_sign w.sign (front ++ (w.point ++ rest)) negative w.is_sign (elim w.is_point [
      | inl p ↦ begins_same _ _ (ap (λ (y : List ℕ). front ++ (y ++ rest)) p) (begins_point front (back ++ rest) w.are_front)
      | inr p ↦ begins_digits front (w.point ++ rest) w.are_front (omega (arith, w.some, ap length p.1))
    ]))

-- a number begins so
pub begins_number : (v r : List ℕ) → IsNumber v → Begins (v ++ r)
begins_number v r n = let d = number_decimal v n in begins_decimal v r d.0 d.1 d.2 d.3 d.4

-- no number begins with a space
first_no_space : (b : ℕ) → IsFirst b → is_space b ≡ false
first_no_space b (inl d) = let both = and_parts _ _ d in let low = leb-true 48 b both.0 in ne_eqb b 32 (λ e. omega arith)
first_no_space b (inr d) = ne_eqb b 32 (λ e. omega arith)

-- the spaces before a number end there
pub begins_stops : (s : List ℕ) → Begins s → Stops is_space s
begins_stops s h = subst (λ (x : List ℕ). Stops is_space x) (sym h.is) (first_no_space h.head h.first)
