-- Numbers at the front of a list against their spellings, in both directions.
use Rattle.std.proofs.Common.{◌≡◌, ℕ, ◌<◌, ◌≤◌, ◌+◌, ◌-◌, true, false, cond, eqb, List, [], ◌++◌, length, take, None, Some, refl, sym, ◌∙◌, ap, subst, arith, inl, inr, ◌⊎◌, ◌&&◌, length-append}
use Rattle.std.specs.Prelude.{ℤ, Bool}
use Rattle.std.specs.List.{take_while}
use Rattle.std.proofs.lemmas.List.{append-nil, nil_from_length, take_at, take_all}
use Rattle.std.proofs.lemmas.Bool.{cases_Bool, cases_eq, and_parts, and_from, cond-true, cond-false, cond_both, eqb-true, eq-eqb, ne_eqb}
use Rattle.std.proofs.lemmas.Option.{some_pair_parts}
use Rattle.fits_value.proofs.FrontLemmas.{chosen}
use Rattle.fits_value.proofs.NumberLemmas.{front_taken, decimal_read, decimal_found, decimal_integer, decimal_real, decimal_number, integer_decimal, signed_read}
use Rattle.fits_value.proofs.SeparatorLemmas.{Separates}
use Rattle.fits_value.specs.Spelling.{is_digit, Spells}
use Rattle.fits_value.specs.Number.{value_of, signed, IsSigned, IsDecimal, IsInteger, IsReal, IsNumber}
use Rattle.fits_value.specs.NumberSteps.{is_minus, after_sign, after_digits, fraction_digits, after_fraction, is_lowered, exponent_digits, after_exponent, BeginsWithDecimal}
use Rattle.fits_value.specs.Scan.{number_by, number_of}
use Rattle.fits_value.specs.declared.reading.ValueKind.{ValueKind}
use Rattle.fits_value.specs.declared.reading.ValueKind.TheVariants.{Integer, Real}

-- the kind of a number by what follows its first digits and what follows it
abbrev kind_by : List ℕ → List ℕ → ValueKind
kind_by tail rest = cond (eqb (length rest) (length tail)) Integer Real

-- a number that is found: its parts, its kind and its bytes
record IsNumberFound (s : List ℕ) (k : ValueKind) (n : ℕ) : Type 0 where
  some : 0 < length (take_while is_digit (after_sign s)) + length (fraction_digits (after_digits (after_sign s)))
  kind : kind_by (after_digits (after_sign s)) (after_exponent (after_fraction (after_digits (after_sign s)))) ≡ k
  bytes : length s - length (after_exponent (after_fraction (after_digits (after_sign s)))) ≡ n

-- where there is a number
number_parts : (s : List ℕ) (k : ValueKind) (n : ℕ) → number_of s ≡ Some (k, n) → IsNumberFound s k n
unfolding number_of
number_parts s k n e =
    let tail = after_digits (after_sign s) in
    let front = take_while is_digit (after_sign s) in
    let back = fraction_digits tail in
    let rest = after_exponent (after_fraction tail) in
    elim (chosen ((eqb (length front) 0) && (eqb (length back) 0)) None (Some (kind_by tail rest, length s - length rest)) (Some (k, n)) e) [
      | inl w ↦ absurd (let z = w.1 in (cc))
      | inr w ↦
          let same = some_pair_parts (kind_by tail rest) k (length s - length rest) n w.1 in
          record {
            some = elim (cases_eq (length front + length back) 0) [
              | inl none ↦ absurd (let z = sym (and_from (eqb (length front) 0) (eqb (length back) 0) (eq-eqb (length front) 0 (omega (arith, none))) (eq-eqb (length back) 0 (omega (arith, none)))) ∙ w.0 in (cc))
              | inr some ↦ omega arith
            ];
            kind = same.0;
            bytes = same.1;
          }
    ]

-- the bytes of a number stand in the list
pub number_within : (s : List ℕ) (k : ValueKind) (n : ℕ) → number_of s ≡ Some (k, n) → n ≤ length s
number_within s k n e = omega (arith, (number_parts s k n e).bytes)

-- a number is an integer or a real
pub number_kinds : (s : List ℕ) (k : ValueKind) (n : ℕ) → number_of s ≡ Some (k, n) → (k ≡ Integer) ⊎ (k ≡ Real)
number_kinds s k n e =
    let tail = after_digits (after_sign s) in
    let rest = after_exponent (after_fraction tail) in
    subst (λ (x : ValueKind). (x ≡ Integer) ⊎ (x ≡ Real)) (number_parts s k n e).kind
    (cond_both (eqb (length rest) (length tail)) Integer Real (λ x. (x ≡ Integer) ⊎ (x ≡ Real)) (λ _. inl refl) (λ _. inr refl))

-- a decimal is spelled as its kind asks
decimal_spells : (text : List ℕ) (negative : Bool) (front back : List ℕ) (power : ℤ) (tail rest : List ℕ) → (d : IsDecimal text negative front back power) → tail ≡ d.point ++ (d.exponent ++ rest) → Spells (kind_by tail rest) text
decimal_spells text negative front back power tail rest d is =
    let size : length tail ≡ length d.point + (length d.exponent + length rest) = ap length is ∙ omega (arith, length-append d.point (d.exponent ++ rest), length-append d.exponent rest) in
    elim (cases_Bool (eqb (length rest) (length tail))) [
      | inl e ↦
          subst (λ (x : ValueKind). Spells x text) (sym (cond-true (eqb (length rest) (length tail)) Integer Real e))
          (decimal_integer text negative front back power d (omega (arith, size, eqb-true (length rest) (length tail) e)))
      | inr e ↦
          let some : 0 < length d.point + length d.exponent = elim (cases_eq (length d.point + length d.exponent) 0) [
            | inl none ↦ absurd (let z = sym (eq-eqb (length rest) (length tail) (omega (arith, size, none))) ∙ e in (cc))
            | inr some ↦ omega arith
          ] in
          subst (λ (x : ValueKind). Spells x text) (sym (cond-false (eqb (length rest) (length tail)) Integer Real e)) (decimal_real text negative front back power d some)
    ]

-- the number that is found is spelled so
pub number_found : (s : List ℕ) (k : ValueKind) (n : ℕ) → number_of s ≡ Some (k, n) → Spells k (take n s)
number_found s k n e =
    let p = number_parts s k n e in
    let body = after_sign s in
    let tail = after_digits body in
    let last = after_fraction tail in
    let rest = after_exponent last in
    let d = decimal_found s body (take_while is_digit body) tail (fraction_digits tail) last (exponent_digits last) rest (is_minus s) (is_lowered last) refl refl refl refl refl refl refl refl refl p.some in
    let size : length d.spelling ≡ n = omega (arith, p.bytes, ap length d.parts, length-append d.spelling rest) in
    let is : take n s ≡ d.spelling = ap (take n) d.parts ∙ take_at d.spelling rest n size in
    subst (λ (x : List ℕ). Spells k x) (sym is)
    (subst (λ (x : ValueKind). Spells x d.spelling) p.kind (decimal_spells d.spelling (is_minus s) (take_while is_digit body) (fraction_digits tail) (signed (is_lowered last) (value_of (exponent_digits last))) tail rest d.is_decimal d.is_tail))

-- a decimal that is spelled, before what separates it, is found
decimal_scanned : (s r : List ℕ) (negative : Bool) (front back : List ℕ) (power : ℤ) → (w : IsDecimal s negative front back power) → Separates r → number_of (s ++ r) ≡ Some (kind_by (w.point ++ (w.exponent ++ r)) r, length s)
unfolding number_of
decimal_scanned s r negative front back power w h =
    let d = decimal_read s r negative front back power w h in
    let tail = w.point ++ (w.exponent ++ r) in
    let size = length (s ++ r) in
    let body = after_sign (s ++ r) in
    let left = after_digits body in
    let some : ((eqb (length front) 0) && (eqb (length back) 0)) ≡ false = elim (cases_Bool ((eqb (length front) 0) && (eqb (length back) 0))) [
      | inl e ↦ let both = and_parts (eqb (length front) 0) (eqb (length back) 0) e in absurd (omega (arith, w.some, eqb-true (length front) 0 both.0, eqb-true (length back) 0 both.1))
      | inr e ↦ e
    ] in
    let bytes : size - length r ≡ length s = omega (arith, length-append s r) in
    ap (λ (x : List ℕ). number_by x (fraction_digits left) left (after_exponent (after_fraction left)) size) (sym d.is_front)
    ∙ (ap (λ (x : List ℕ). number_by front x left (after_exponent (after_fraction left)) size) (sym d.is_back)
    ∙ (ap (λ (x : List ℕ). number_by front back x (after_exponent (after_fraction left)) size) (sym d.is_tail)
    ∙ (ap (λ (x : List ℕ). number_by front back tail x size) (sym d.is_rest)
    ∙ (cond-false ((eqb (length front) 0) && (eqb (length back) 0)) None (Some (kind_by tail r, size - length r)) some ∙ ap (λ (n : ℕ). Some (kind_by tail r, n)) bytes))))

-- an integer that is spelled is found
pub number_integer : (s r : List ℕ) → IsInteger s → Separates r → number_of (s ++ r) ≡ Some (Integer, length s)
unfolding integer_decimal
number_integer s r i h =
    decimal_scanned s r i.negative i.digits [] _ (integer_decimal s i.negative i.digits i.spelled) h
    ∙ ap (λ (k : ValueKind). Some (k, length s)) (cond-true (eqb (length r) (length r)) Integer Real (eq-eqb (length r) (length r) refl))

-- and so is a real
pub number_real : (s r : List ℕ) → IsReal s → Separates r → number_of (s ++ r) ≡ Some (Real, length s)
number_real s r i h =
    let w = i.spelled in
    let tail = w.point ++ (w.exponent ++ r) in
    let size : length tail ≡ length w.point + (length w.exponent + length r) = omega (arith, length-append w.point (w.exponent ++ r), length-append w.exponent r) in
    let more : 0 < length w.point + length w.exponent = elim i.form [ inl e ↦ omega (arith, ap length e) | inr n ↦ omega (arith, n) ] in
    decimal_scanned s r i.negative i.front i.back i.power w h
    ∙ ap (λ (k : ValueKind). Some (k, length s)) (cond-false (eqb (length r) (length tail)) Integer Real (ne_eqb (length r) (length tail) (λ e. omega (arith, e, size, more))))

-- an integer is found as a whole
pub whole_integer : (text : List ℕ) → IsInteger text → number_of text ≡ Some (Integer, length text)
whole_integer text i = ap number_of (sym (append-nil text)) ∙ number_integer text [] i tt

-- and so is a real
pub whole_real : (text : List ℕ) → IsReal text → number_of text ≡ Some (Real, length text)
whole_real text i = ap number_of (sym (append-nil text)) ∙ number_real text [] i tt

-- so is each number
number_whole : (text : List ℕ) → IsNumber text → (k : ValueKind) × (number_of text ≡ Some (k, length text))
number_whole text (inl i) = (Integer, whole_integer text i)
number_whole text (inr i) = (Real, whole_real text i)

-- a number that nothing follows is the text
pub whole_decimal : (text front back rest : List ℕ) (negative : Bool) (power : ℤ) → BeginsWithDecimal text negative front back power rest → length rest ≡ 0 → IsDecimal text negative front back power
whole_decimal text front back rest negative power w e =
    let is : text ≡ w.spelling = w.parts ∙ (ap (λ (x : List ℕ). w.spelling ++ x) (nil_from_length rest e) ∙ append-nil w.spelling) in
    subst (λ (x : List ℕ). IsDecimal x negative front back power) (sym is) w.is_decimal

-- a text that begins with no number is no decimal
pub no_decimal : (text front back : List ℕ) (negative : Bool) (power : ℤ) → number_of text ≡ None → IsDecimal text negative front back power → ⊥
no_decimal text front back negative power e d =
    let w = number_whole text (decimal_number text negative front back power d) in
    let z = sym w.1 ∙ e in
    (cc)

-- nor is one where bytes follow the number
pub no_whole_decimal : (text front back rest : List ℕ) (negative : Bool) (power : ℤ) (k : ValueKind) → number_of text ≡ Some (k, length text - length rest) → length rest ≤ length text → (length rest ≡ 0 → ⊥) → IsDecimal text negative front back power → ⊥
no_whole_decimal text front back rest negative power k e within some d =
    let w = number_whole text (decimal_number text negative front back power d) in
    let same = some_pair_parts w.0 k (length text) (length text - length rest) (sym w.1 ∙ e) in
    some (omega (arith, same.1, within))

-- the sign and the first digits of a number that is an integer are the integer's
pub integer_parts : (text front back : List ℕ) (negative is_integer : Bool) (power : ℤ) → IsDecimal text negative front back power → number_of text ≡ Some (cond is_integer Integer Real, length text) → is_integer ≡ true → IsSigned text negative front
integer_parts text front back negative is_integer power d e is =
    let found : number_of text ≡ Some (Integer, length text) = e ∙ ap (λ (k : ValueKind). Some (k, length text)) (cond-true is_integer Integer Real is) in
    let i : IsInteger text = subst (λ (x : List ℕ). IsInteger x) (take_all (length text) text (omega arith)) (number_found text Integer (length text) found) in
    let a = signed_read text i.negative i.digits i.spelled in
    let b = decimal_read text [] negative front back power d tt in
    let n : negative ≡ i.negative = b.is_negative ∙ (ap is_minus (append-nil text) ∙ sym a.0) in
    let all = front_taken is_digit i.digits [] i.spelled.are_digits.0 tt in
    let whole : i.digits ≡ take_while is_digit i.digits = all.0 ∙ ap (take_while is_digit) (append-nil i.digits) in
    let f : front ≡ i.digits = b.is_front ∙ (ap (λ (x : List ℕ). take_while is_digit (after_sign x)) (append-nil text) ∙ (ap (take_while is_digit) (sym a.1) ∙ sym whole)) in
    subst (λ (x : Bool). IsSigned text x front) (sym n) (subst (λ (x : List ℕ). IsSigned text i.negative x) (sym f) i.spelled)

-- an integer has one sign and digits
pub one_signed : (text digits ds : List ℕ) (negative m : Bool) → IsSigned text m ds → IsSigned text negative digits → (m ≡ negative) × (ds ≡ digits)
one_signed text digits ds negative m v w =
    let a = signed_read text m ds v in
    let b = signed_read text negative digits w in
    (a.0 ∙ sym b.0, a.1 ∙ sym b.1)

-- a number that is no integer is not one
pub no_integer : (text digits : List ℕ) (negative is_integer : Bool) → number_of text ≡ Some (cond is_integer Integer Real, length text) → is_integer ≡ false → IsSigned text negative digits → ⊥
no_integer text digits negative is_integer e is w =
    let real : number_of text ≡ Some (Real, length text) = e ∙ ap (λ (k : ValueKind). Some (k, length text)) (cond-false is_integer Integer Real is) in
    let integer = whole_integer text (record { negative = negative; digits = digits; spelled = w }) in
    let kinds = (some_pair_parts Integer Real (length text) (length text) (sym integer ∙ real)).0 in
    (cc)

pub ruleset integer_reads = (integer_parts, one_signed)
