-- Numbers as whole ones times powers of ten: when two are the same, and what their texts say.
use Rattle.std.proofs.Common.{◌≡◌, ◌≢◌, inl, inr, ℕ, suc, ◌≤◌, ◌+◌, ◌-◌, ◌*◌, ◌^◌, ◌%◌, ltb, eqb, Bool, true, false, ◌&&◌, List, [], ◌++◌, length, refl, sym, ◌∙◌, ap, subst, arith}
use Rattle.std.specs.Prelude.{ℤ, ◌↔◌, IsTrue}
use Rattle.std.specs.Cmp.{both_ways}
use Rattle.std.specs.List.{take_while}
use Rattle.std.proofs.lemmas.Bool.{and_parts, and_from, cases_Bool, cases_lt, eqb-true, eq-eqb, false≢true, lt-ltb, ltb-true, ne_eqb}
use Rattle.std.proofs.lemmas.List.{append-nil, nil_from_length}
use Rattle.std.proofs.lemmas.Nat.{pow-add}
use Rattle.std.proofs.Math.Nat.{mul-mod_left, pow-suc}
use Rattle.fits_value.proofs.DigitLemmas.{by_left, cancel, value_append, zero_times}
use Rattle.fits_value.proofs.FrontLemmas.{prefix_passes}
use Rattle.fits_value.proofs.NumberLemmas.{IsRead, decimal_begins, decimal_read, one_power}
use Rattle.fits_value.specs.Number.{IsDecimal, IsPowerOf, value_of, raised, lowered}
use Rattle.fits_value.specs.NumberSteps.{after_exponent, after_sign, exponent_digits, is_lowered, is_minus}
use Rattle.fits_value.specs.Says.{after_back, after_front, back_digits, front_digits, is_number, power_in}
use Rattle.fits_value.specs.Spelling.{is_digit, IsDigits}
use Rattle.fits_extended.specs.Numbers.{DenoteSame, IsScaled, Scaled, are_same, denote_same, is_same_sign, is_same_size, scaled_in}

-- the digits that a text begins with are digits
pub taken_digits : (text digits : List ℕ) → digits ≡ take_while is_digit text → IsDigits digits
taken_digits text digits e = rw e (prefix_passes is_digit text)

-- the last digit of the second run is the last of both
pub cut_back : (front back rest : List ℕ) (last : ℕ) → value_of back ≡ value_of rest * 10 + last → length rest + 1 ≡ length back → value_of (front ++ back) ≡ value_of (front ++ rest) * 10 + last
cut_back front back rest last e size =
    let p : 10 ^ length back ≡ 10 ^ length rest * 10 = ap (λ (n : ℕ). 10 ^ n) (sym size) ∙ pow-add 10 (length rest) 1 in
    let one : value_of (front ++ back) ≡ value_of front * (10 ^ length rest * 10) + value_of back = value_append front back ∙ ap (λ (n : ℕ). value_of front * n + value_of back) p in
    omega (arith, one, value_append front rest, e)

-- one more zero is taken from the end
pub one_zero_more : (whole now before last zeros : ℕ) → whole ≡ now * 10 ^ zeros → now ≡ before * 10 + last → last ≡ 0 → whole ≡ before * 10 ^ (zeros + 1)
one_zero_more whole now before last zeros e f z =
    let p : 10 ^ (zeros + 1) ≡ 10 ^ zeros * 10 = pow-add 10 zeros 1 in
    let q : now * 10 ^ zeros ≡ (before * 10) * 10 ^ zeros = let r : now ≡ before * 10 = omega arith in ap (λ (n : ℕ). n * 10 ^ zeros) r in
    e ∙ (q ∙ rw p (omega arith))

-- so many zeros at the end, and more powers of ten
shifted : (x m z p : ℕ) → x ≡ m * 10 ^ z → x * 10 ^ p ≡ m * 10 ^ (z + p)
shifted x m z p e = ap (λ (n : ℕ). n * 10 ^ p) e ∙ rw (pow-add 10 z p) (omega arith)

-- a number with a last digit other than 0 is no multiple of ten
no_multiple : (m v k : ℕ) → m % 10 ≢ 0 → v * 10 ^ suc k ≡ m → ⊥
no_multiple m v k last e =
    let f : v * 10 ^ k * 10 ≡ m = let p : 10 ^ suc k ≡ 10 ^ k * 10 = pow-suc 10 k in omega (arith, e, ap (λ (n : ℕ). v * n) p) in
    last (ap (λ (n : ℕ). n % 10) (sym f) ∙ mul-mod_left (v * 10 ^ k) 10)

-- where a last digit isn't 0, no power of ten is left over
same_power : (m v up down : ℕ) → m % 10 ≢ 0 → down ≤ up → m * 10 ^ down ≡ v * 10 ^ up → (m ≡ v) × (down ≡ up)
same_power m v up down last low e = elim (cases_lt down up) [
  | inl more ↦
      let k = up - down - 1 in
      let step : up - down ≡ suc k = omega arith in
      let f : v * 10 ^ (up - down) ≡ m = (by_left v m up down low).1 (sym e) in
      absurd (no_multiple m v k last (ap (λ (n : ℕ). v * 10 ^ n) (sym step) ∙ f))
  | inr most ↦
      let same : up ≡ down = omega arith in
      (cancel m v down (e ∙ ap (λ (n : ℕ). v * 10 ^ n) same), sym same)
]

-- two numbers with no zeros at their ends are the same times powers of ten where both are
same_parts : (m n p q : ℕ) → m % 10 ≢ 0 → n % 10 ≢ 0 → m * 10 ^ p ≡ n * 10 ^ q → (m ≡ n) × (p ≡ q)
same_parts m n p q a b e = elim (cases_lt p q) [
  | inl low ↦ same_power m n q p a (omega arith) e
  | inr high ↦ let w = same_power n m p q b high (sym e) in (sym w.0, sym w.1)
]

-- a number with a last digit other than 0, times a power of ten, isn't 0
pub not_zero : (x m z : ℕ) → x ≡ m * 10 ^ z → m % 10 ≢ 0 → x ≢ 0
not_zero x m z e last none =
    let f : m ≡ 0 = (zero_times m z 0 0 refl).1 (sym e ∙ (none ∙ omega arith)) in
    last (ap (λ (n : ℕ). n % 10) f)

-- the sizes of two numbers, as what is left of them without their zeros, and as fractions
pub same_sizes : (x y m n z w p q : ℕ) → x ≡ m * 10 ^ z → y ≡ n * 10 ^ w → m % 10 ≢ 0 → n % 10 ≢ 0 → ((m ≡ n) × (z + p ≡ w + q)) ↔ (x * 10 ^ p ≡ y * 10 ^ q)
same_sizes x y m n z w p q e f a b = (
  λ h. shifted x m z p e ∙ (ap (λ (k : ℕ). k * 10 ^ (z + p)) h.0 ∙ (ap (λ (k : ℕ). n * 10 ^ k) h.1 ∙ sym (shifted y n w q f))),
  λ h. same_parts m n (z + p) (w + q) a b (sym (shifted x m z p e) ∙ (h ∙ shifted y n w q f)),
)

-- of two numbers that aren't 0, one text of digits, one power and one sign are all that is asked
pub told : (a b : Scaled) (m n z w : ℕ) (sign runs sums : Bool) → a.whole ≡ m * 10 ^ z → b.whole ≡ n * 10 ^ w → m % 10 ≢ 0 → n % 10 ≢ 0 → sign ≡ is_same_sign a.negative b.negative
    → IsTrue runs ↔ (m ≡ n) → IsTrue sums ↔ (z + (a.up + b.down) ≡ w + (b.up + a.down)) → (sign && (runs && sums)) ≡ are_same a b
told a b m n z w sign runs sums e f last_a last_b s r t =
    let same = same_sizes a.whole b.whole m n z w (a.up + b.down) (b.up + a.down) e f last_a last_b in
    let some : eqb a.whole 0 ≡ false = ne_eqb a.whole 0 (not_zero a.whole m z e last_a) in
    let sizes : (runs && sums) ≡ is_same_size a b = both_ways (runs && sums) (is_same_size a b)
    (λ h. let u = and_parts runs sums h in eq-eqb _ _ (same.0 (r.0 u.0, t.0 u.1)))
    (λ h. let v = same.1 (eqb-true _ _ h) in and_from runs sums (r.1 v.0) (t.1 v.1)) in
    both_ways (sign && (runs && sums)) (are_same a b)
    (λ h. let u = and_parts sign (runs && sums) h in and_from (is_same_size a b) _ (sym sizes ∙ u.1) (rw some (sym s ∙ u.0)))
    (λ h. let u = and_parts (is_same_size a b) _ h in and_from sign (runs && sums) (s ∙ (rw some at u.1)) (sizes ∙ u.0))

-- one test that fails of two is enough
less : (sign runs sums : Bool) → (sign && runs) ≡ false → (sign && (runs && sums)) ≡ false
less false runs sums e = refl
less true false sums e = refl
less true true sums e = absurd (false≢true (sym e))

-- where the signs or the digits differ, the numbers do
pub told_apart : (a b : Scaled) (m n z w : ℕ) (sign runs : Bool) → a.whole ≡ m * 10 ^ z → b.whole ≡ n * 10 ^ w → m % 10 ≢ 0 → n % 10 ≢ 0 → sign ≡ is_same_sign a.negative b.negative → IsTrue runs ↔ (m ≡ n) → (sign && runs) ≡ false
    → false ≡ are_same a b
told_apart a b m n z w sign runs e f last_a last_b s r apart =
    let x = z + (a.up + b.down) in
    let y = w + (b.up + a.down) in
    sym (less sign runs (eqb x y) apart) ∙ told a b m n z w sign runs (eqb x y) e f last_a last_b s r (eqb-true x y, eq-eqb x y)

-- the same, where the signs do
pub signs_apart : (a b : Scaled) (m n z w : ℕ) (sign : Bool) → a.whole ≡ m * 10 ^ z → b.whole ≡ n * 10 ^ w → m % 10 ≢ 0 → n % 10 ≢ 0 → sign ≡ is_same_sign a.negative b.negative → sign ≡ false → false ≡ are_same a b
signs_apart a b m n z w sign e f last_a last_b s apart = told_apart a b m n z w sign (eqb m n) e f last_a last_b s (eqb-true m n, eq-eqb m n) (rw apart refl)

-- a number that is 0 is no other
zero_alone : (x y p q : ℕ) → x ≡ 0 → y ≢ 0 → x * 10 ^ p ≡ y * 10 ^ q → ⊥
zero_alone x y p q z some e = some ((zero_times y q 0 0 refl).1 (sym e ∙ (ap (λ (n : ℕ). n * 10 ^ p) z ∙ omega arith)))

-- so it is the same as none that isn't
pub differs_from_zero : (a b : Scaled) (n w : ℕ) → a.whole ≡ 0 → b.whole ≡ n * 10 ^ w → n % 10 ≢ 0 → false ≡ are_same a b
differs_from_zero a b n w z e last =
    both_ways false (are_same a b)
    (λ h. absurd (false≢true h))
    (λ h. absurd (zero_alone a.whole b.whole _ _ z (not_zero b.whole n w e last) (eqb-true _ _ (and_parts (is_same_size a b) _ h).0)))

-- nor is another the same as it
pub zero_differs : (a b : Scaled) (m z : ℕ) → b.whole ≡ 0 → a.whole ≡ m * 10 ^ z → m % 10 ≢ 0 → false ≡ are_same a b
zero_differs a b m z n e last =
    both_ways false (are_same a b)
    (λ h. absurd (false≢true h))
    (λ h. absurd (zero_alone b.whole a.whole _ _ n (not_zero a.whole m z e last) (sym (eqb-true _ _ (and_parts (is_same_size a b) _ h).0))))

-- the parts of a text that is a number are those of a decimal
parts_found : (text : List ℕ) → is_number text ≡ true → IsDecimal text (is_minus text) (front_digits text) (back_digits text) (power_in text)
parts_found text e =
    let last = after_back text in
    let both = and_parts (ltb 0 (length (front_digits text) + length (back_digits text))) (eqb (length (after_exponent last)) 0) e in
    let found = decimal_begins text (after_sign text) (front_digits text) (after_front text) (back_digits text) last (exponent_digits last) (after_exponent last) (is_minus text) (is_lowered last)
    refl refl refl refl refl refl refl refl refl (ltb-true 0 (length (front_digits text) + length (back_digits text)) both.0) in
    let none : after_exponent last ≡ [] = nil_from_length (after_exponent last) (eqb-true (length (after_exponent last)) 0 both.1) in
    let whole : found.spelling ≡ text = sym (append-nil found.spelling) ∙ (ap (λ (z : List ℕ). found.spelling ++ z) (sym none) ∙ sym found.parts) in
    subst (λ (z : List ℕ). IsDecimal z (is_minus text) (front_digits text) (back_digits text) (power_in text)) whole found.is_decimal

-- a decimal is a number
decimal_is : (text : List ℕ) (negative : Bool) (front back : List ℕ) (power : ℤ) → IsDecimal text negative front back power → is_number text ≡ true
decimal_is text negative front back power d =
    let last = d.exponent ++ [] in
    let read = subst (λ (z : List ℕ). IsRead z negative front back (d.point ++ last) last []) (append-nil text) (decimal_read text [] negative front back power d tt) in
    and_from _ _
    (lt-ltb 0 (length (front_digits text) + length (back_digits text)) (omega (arith, d.some, ap length read.is_front, ap length read.is_back)))
    (eq-eqb (length (after_exponent (after_back text))) 0 (sym (ap length read.is_rest)))

-- the number of these parts
abbrev scaled : Bool → ℕ → ℕ → ℕ → Scaled
scaled negative whole up down = record { negative = negative; whole = whole; up = up; down = down }

-- two numbers of the same parts
same_fields : (a b : Scaled) → a.negative ≡ b.negative → a.whole ≡ b.whole → a.up ≡ b.up → a.down ≡ b.down → a ≡ b
same_fields a b n w u d =
    ap (λ (z : Bool). scaled z a.whole a.up a.down) n
    ∙ (ap (λ (z : ℕ). scaled b.negative z a.up a.down) w ∙ (ap (λ (z : ℕ). scaled b.negative b.whole z a.down) u ∙ ap (λ (z : ℕ). scaled b.negative b.whole b.up z) d))

-- two readings of a text have one number
one_reading : (text : List ℕ) (number : Scaled) (front back : List ℕ) (negative : Bool) (power : ℤ) → IsScaled text number → IsDecimal text negative front back power
    → number ≡ scaled negative (value_of (front ++ back)) (raised power) (length back + lowered power)
one_reading text number front back negative power w d =
    let a = decimal_read text [] negative front back power d tt in
    let b = decimal_read text [] number.negative w.front w.back w.power w.spelled tt in
    let n : number.negative ≡ negative = b.is_negative ∙ sym a.is_negative in
    let f : w.front ≡ front = b.is_front ∙ sym a.is_front in
    let k : w.back ≡ back = b.is_back ∙ sym a.is_back in
    let x : w.spelled.exponent ≡ d.exponent = sym (append-nil w.spelled.exponent) ∙ (b.is_last ∙ (sym a.is_last ∙ append-nil d.exponent)) in
    let p : w.power ≡ power = one_power d.exponent w.power power (subst (λ (z : List ℕ). IsPowerOf z w.power) x w.spelled.is_power) d.is_power in
    let whole : number.whole ≡ value_of (front ++ back) = w.whole ∙ (ap (λ (z : List ℕ). value_of (z ++ w.back)) f ∙ ap (λ (z : List ℕ). value_of (front ++ z)) k) in
    let up : number.up ≡ raised power = w.up ∙ ap raised p in
    let down : number.down ≡ length back + lowered power = w.down ∙ (ap (λ (z : List ℕ). length z + lowered w.power) k ∙ ap (λ (z : ℤ). length back + lowered z) p) in
    same_fields number (scaled negative (value_of (front ++ back)) (raised power) (length back + lowered power)) n whole up down

-- a text that is a number denotes what is read
read_scaled : (text : List ℕ) → is_number text ≡ true → IsScaled text (scaled_in text)
read_scaled text e = record { front = front_digits text; back = back_digits text; power = power_in text; spelled = parts_found text e; whole = refl; up = refl; down = refl }

-- a text that denotes a number is one, and denotes what is read
scaled_read : (text : List ℕ) (number : Scaled) → IsScaled text number → (is_number text ≡ true) × (number ≡ scaled_in text)
scaled_read text number w =
    let is = decimal_is text number.negative w.front w.back w.power w.spelled in
    (is, one_reading text number (front_digits text) (back_digits text) (is_minus text) (power_in text) w (parts_found text is))

-- texts are found to be the same number exactly where they denote it
pub number_told : (a b : List ℕ) → IsTrue (denote_same a b) ↔ DenoteSame a b
unfolding denote_same
number_told a b = (
  λ h. let u = and_parts (is_number a) (is_number b && are_same (scaled_in a) (scaled_in b)) h in
      let v = and_parts (is_number b) (are_same (scaled_in a) (scaled_in b)) u.1 in
      record { first = scaled_in a; second = scaled_in b; is_first = read_scaled a u.0; is_second = read_scaled b v.0; same = v.1 },
  λ w. let u = scaled_read a w.first w.is_first in
      let v = scaled_read b w.second w.is_second in
      let same : are_same (scaled_in a) (scaled_in b) ≡ true = subst (λ (z : Scaled). are_same z (scaled_in b) ≡ true) u.1 (subst (λ (z : Scaled). are_same w.first z ≡ true) v.1 w.same) in
      and_from (is_number a) (is_number b && are_same (scaled_in a) (scaled_in b)) u.0 (and_from (is_number b) (are_same (scaled_in a) (scaled_in b)) v.0 same),
)

-- the same, of what is found
pub number_exact : (a b : List ℕ) (found : Bool) → found ≡ denote_same a b → IsTrue found ↔ DenoteSame a b
number_exact a b found e = subst (λ (z : Bool). IsTrue z ↔ DenoteSame a b) (sym e) (number_told a b)

-- two numbers are found by their parts
pub by_parts : (a b : List ℕ) (first second : Scaled) (found : Bool) → is_number a ≡ true → is_number b ≡ true → first ≡ scaled_in a → second ≡ scaled_in b → found ≡ are_same first second → found ≡ denote_same a b
unfolding denote_same
by_parts a b first second found is_a is_b e f g =
    rw (is_a, is_b) (g ∙ (ap (λ (z : Scaled). are_same z second) e ∙ ap (λ (z : Scaled). are_same (scaled_in a) z) f))

-- what is no number is the same as none
pub first_no_number : (a b : List ℕ) → is_number a ≡ false → false ≡ denote_same a b
unfolding denote_same
first_no_number a b no_number = rw no_number refl

-- nor is a number the same as what is none
pub second_no_number : (a b : List ℕ) → is_number b ≡ false → false ≡ denote_same a b
unfolding denote_same
second_no_number a b no_number = elim (cases_Bool (is_number a)) [ inl e ↦ rw (e, no_number) refl | inr e ↦ rw e refl ]
