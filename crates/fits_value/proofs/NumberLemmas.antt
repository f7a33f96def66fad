-- A text has one reading as a number: sign, digits, point and exponent, before what separates it.
use Rattle.std.proofs.Common.{◌≡◌, ◌⊎◌, inl, inr, ℕ, zero, suc, ◌<◌, ◌≤◌, ◌+◌, Bool, true, false, List, [], ◌∷◌, ◌++◌, length, length-append, drop, refl, sym, ◌∙◌, ap, subst, arith, append_assoc}
use Rattle.std.specs.Prelude.{ℤ, pos, ◌==◌, ◌↔◌, ◌*◌, ◌^◌, ◌≤ℤ◌, negsuc, unsigned_abs}
use Rattle.std.proofs.lemmas.Int.{ints}
use Rattle.fits_value.proofs.DigitLemmas.{cancel, zero_times}
use Rattle.std.specs.List.{list_all, prefix_len, take_while}
use Rattle.std.proofs.lemmas.List.{take-append-drop, append-nil, nil_from_length}
use Rattle.std.proofs.lemmas.Bool.{cases_Bool, cases_eq, and_parts, and_from, or_cases, or_from, or_parts, cond-true, cond-false, cond_both, eqb-true, ne_eqb, leb-true, ltb-true, lt-ltb}
use Rattle.std.proofs.Math.Seq.{take-append_seam, drop-append_seam}
use Rattle.fits_value.proofs.FrontLemmas.{Stops, prefix_len-front, prefix_passes}
use Rattle.fits_value.proofs.SeparatorLemmas.{Separates, separated_digit, separated_point, separated_exponent}
use Rattle.fits_value.specs.Spelling.{is_digit, is_sign, is_exponent_letter, IsDigits, AreSomeDigits}
use Rattle.fits_value.specs.Number.{value_of, signed, IsSignOf, IsSigned, IsIntegerOf, IsPowerOf, IsDecimal, IsInteger, IsReal, IsNumber, raised, lowered, IsExactly, Denotes}
use Rattle.fits_value.specs.NumberSteps.{is_minus, after_sign, after_digits, fraction_digits, after_fraction, begins_exponent, is_lowered, exponent_digits, after_exponent, BeginsWithDecimal}

-- such a prefix is what is taken, and what follows is what is left
pub front_taken : (p : ℕ → Bool) (xs ys : List ℕ) → list_all p xs ≡ true → Stops p ys → (xs ≡ take_while p (xs ++ ys)) × (ys ≡ drop (prefix_len p (xs ++ ys)) (xs ++ ys))
front_taken p xs ys all stops = rw (prefix_len-front p xs ys all stops) (sym (take-append_seam xs ys), sym (drop-append_seam xs ys))

-- a digit is no sign
pub digit_no_sign : (b : ℕ) → is_digit b ≡ true → is_sign b ≡ false
digit_no_sign b e =
    let low : 48 ≤ b = leb-true 48 b (and_parts _ _ e).0 in
    or_from _ _ (ne_eqb b 43 (λ z. omega arith)) (ne_eqb b 45 (λ z. omega arith))

-- a list that begins with a digit begins with no sign
pub digits_first : (digits rest : List ℕ) → IsDigits digits → 0 < length digits → Stops is_sign (digits ++ rest)
digits_first [] rest all some = absurd (omega arith)
digits_first (b ∷ digits) rest all some = digit_no_sign b (and_parts (is_digit b) _ all).0

-- a list that begins with no sign is what follows nothing
pub no_sign : (text : List ℕ) → Stops is_sign text → (false ≡ is_minus text) × (text ≡ after_sign text)
no_sign [] stops = (refl, refl)
no_sign (b ∷ text) stops = (sym (or_parts (b == 43) (b == 45) stops).1, sym (cond-false (is_sign b) text (b ∷ text) stops))

-- a sign before a list that begins with none is the sign that is read
pub sign_read : (sign text : List ℕ) (negative : Bool) → IsSignOf sign negative → Stops is_sign text → (negative ≡ is_minus (sign ++ text)) × (text ≡ after_sign (sign ++ text))
sign_read sign text true e stops = rw e (refl, refl)
sign_read sign text false (inl e) stops = rw e (no_sign text stops)
sign_read sign text false (inr e) stops = rw e (refl, refl)

-- the sign that is read is one, and the list begins with it
pub sign_found : (text : List ℕ) → (sign : List ℕ) × IsSignOf sign (is_minus text) × (text ≡ sign ++ after_sign text)
sign_found [] = ([], inl refl, refl)
sign_found (b ∷ text) = elim (cases_Bool (b == 45)) [
  | inl e ↦ rw (eqb-true b 45 e) (45 ∷ [], refl, refl)
  | inr e ↦ elim (cases_Bool (b == 43)) [
    | inl f ↦ rw (eqb-true b 43 f) (43 ∷ [], inr refl, refl)
    | inr f ↦ ([], subst (λ (z : Bool). IsSignOf [] z) (sym e) (inl refl), sym (cond-false (is_sign b) text (b ∷ text) (or_from _ _ f e)))
  ]
]

-- an integer's sign and digits are those that are read
pub signed_read : (text : List ℕ) (negative : Bool) (digits : List ℕ) → IsSigned text negative digits → (negative ≡ is_minus text) × (digits ≡ after_sign text)
signed_read text negative digits w =
    let stops : Stops is_sign digits = subst (λ (s : List ℕ). Stops is_sign s) (append-nil digits) (digits_first digits [] w.are_digits.0 w.are_digits.1) in
    let read = sign_read w.sign digits negative w.is_sign stops in
    (read.0 ∙ ap is_minus (sym w.parts), read.1 ∙ ap after_sign (sym w.parts))

-- what is read is an integer where digits follow the sign
pub signed_found : (text : List ℕ) → AreSomeDigits (after_sign text) → IsSigned text (is_minus text) (after_sign text)
signed_found text some = let s = sign_found text in record { sign = s.0; is_sign = s.1; are_digits = some; parts = s.2 }

-- an integer has one number
pub one_integer : (text : List ℕ) (m n : ℤ) → IsIntegerOf text m → IsIntegerOf text n → m ≡ n
one_integer text m n v w =
    let a = signed_read text v.negative v.digits v.spelled in
    let b = signed_read text w.negative w.digits w.spelled in
    let e : v.negative ≡ w.negative = a.0 ∙ sym b.0 in
    let f : v.digits ≡ w.digits = a.1 ∙ sym b.1 in
    v.value ∙ (ap (λ (z : Bool). signed z (value_of v.digits)) e ∙ (ap (λ (s : List ℕ). signed w.negative (value_of s)) f ∙ sym w.value))

-- an exponent has one power
pub one_power : (text : List ℕ) (p q : ℤ) → IsPowerOf text p → IsPowerOf text q → p ≡ q
one_power [] p q v w = v ∙ sym w
one_power (letter ∷ text) p q v w = one_integer text p q v.1 w.1

-- an exponent's letter is no digit and no point
pub letter_stops : (b : ℕ) → is_exponent_letter b ≡ true → (is_digit b ≡ false) × ((b == 46) ≡ false)
letter_stops b e = elim (or_cases (b == 69) (b == 68) e) [
  | inl f ↦ rw (eqb-true b 69 f) (refl, refl)
  | inr f ↦ rw (eqb-true b 68 f) (refl, refl)
]

-- so an exponent, or none, begins with no digit
power_stops : (text rest : List ℕ) (power : ℤ) → IsPowerOf text power → Separates rest → Stops is_digit (text ++ rest)
power_stops [] rest power w h = separated_digit rest h
power_stops (letter ∷ text) rest power w h = (letter_stops letter w.0).0

-- and with no point
power_no_point : (text rest : List ℕ) (power : ℤ) → IsPowerOf text power → Separates rest → ([] ≡ fraction_digits (text ++ rest)) × (text ++ rest ≡ after_fraction (text ++ rest))
power_no_point [] rest power w h = separated_point rest h
power_no_point (letter ∷ text) rest power w h =
    let e = (letter_stops letter w.0).1 in
    (sym (cond-false (letter == 46) _ _ e), sym (cond-false (letter == 46) _ _ e))

-- an exponent, or none, is taken whole
power_read : (text rest : List ℕ) (power : ℤ) → IsPowerOf text power → Separates rest → rest ≡ after_exponent (text ++ rest)
power_read [] rest power w h = separated_exponent rest h
power_read (letter ∷ text) rest power w h =
    let s = w.1.spelled in
    let digits = w.1.digits in
    let is : text ++ rest ≡ s.sign ++ (digits ++ rest) = ap (λ (x : List ℕ). x ++ rest) s.parts ∙ append_assoc s.sign digits rest in
    let body : digits ++ rest ≡ after_sign (text ++ rest) = (sign_read s.sign (digits ++ rest) w.1.negative s.is_sign (digits_first digits rest s.are_digits.0 s.are_digits.1)).1 ∙ ap after_sign (sym is) in
    let taken = front_taken is_digit digits rest s.are_digits.0 (separated_digit rest h) in
    let size : length digits ≡ length (take_while is_digit (after_sign (text ++ rest))) = ap length (taken.0 ∙ ap (take_while is_digit) body) in
    let test : begins_exponent letter (text ++ rest) ≡ true = and_from _ _ w.0 (lt-ltb 0 _ (omega (arith, size, s.are_digits.1))) in
    taken.1 ∙ (ap after_digits body ∙ sym (cond-true (begins_exponent letter (text ++ rest)) _ _ test))

-- the digits after a point are those that are read, and the exponent is what is left
point_read : (point back exponent rest : List ℕ) (power : ℤ) → (point ≡ 46 ∷ back) ⊎ ((point ≡ []) × (back ≡ [])) → IsDigits back → IsPowerOf exponent power → Separates rest
    → (back ≡ fraction_digits (point ++ (exponent ++ rest))) × (exponent ++ rest ≡ after_fraction (point ++ (exponent ++ rest)))
point_read point back exponent rest power (inl e) all w h = rw e (front_taken is_digit back (exponent ++ rest) all (power_stops exponent rest power w h))
point_read point back exponent rest power (inr e) all w h = rw (e.0, e.1) (power_no_point exponent rest power w h)

-- a point and an exponent begin with no digit
tail_stops : (point back exponent rest : List ℕ) (power : ℤ) → (point ≡ 46 ∷ back) ⊎ ((point ≡ []) × (back ≡ [])) → IsPowerOf exponent power → Separates rest → Stops is_digit (point ++ (exponent ++ rest))
tail_stops point back exponent rest power (inl e) w h = rw e refl
tail_stops point back exponent rest power (inr e) w h = rw e.0 (power_stops exponent rest power w h)

-- digits with a point among them begin with no sign
body_stops : (front point back tail : List ℕ) → IsDigits front → 0 < length front + length back → (point ≡ 46 ∷ back) ⊎ ((point ≡ []) × (back ≡ [])) → Stops is_sign (front ++ (point ++ tail))
body_stops [] point back tail all some (inl e) = rw e refl
body_stops [] point back tail all some (inr e) = let size : length back ≡ 0 = ap length e.1 in absurd (omega arith)
body_stops (b ∷ front) point back tail all some e = digit_no_sign b (and_parts (is_digit b) _ all).0

-- the parts of a number are those that are read
pub record IsRead (text : List ℕ) (negative : Bool) (front back tail last rest : List ℕ) : Type 0 where
  pub is_negative : negative ≡ is_minus text
  pub is_front : front ≡ take_while is_digit (after_sign text)
  pub is_tail : tail ≡ after_digits (after_sign text)
  pub is_back : back ≡ fraction_digits (after_digits (after_sign text))
  pub is_last : last ≡ after_fraction (after_digits (after_sign text))
  pub is_rest : rest ≡ after_exponent (after_fraction (after_digits (after_sign text)))

-- the parts of a decimal are read, before what separates it
pub decimal_read : (text rest : List ℕ) (negative : Bool) (front back : List ℕ) (power : ℤ) → (w : IsDecimal text negative front back power) → Separates rest
    → IsRead (text ++ rest) negative front back (w.point ++ (w.exponent ++ rest)) (w.exponent ++ rest) rest
decimal_read text rest negative front back power w h =
    let last = w.exponent ++ rest in
    let tail = w.point ++ last in
    let parts : text ++ rest ≡ w.sign ++ (front ++ tail) =
    ap (λ (x : List ℕ). x ++ rest) w.parts ∙ (append_assoc (w.sign ++ front ++ w.point) w.exponent rest ∙ (append_assoc (w.sign ++ front) w.point last ∙ append_assoc w.sign front tail)) in
    let sign = sign_read w.sign (front ++ tail) negative w.is_sign (body_stops front w.point back last w.are_front w.some w.is_point) in
    let body : front ++ tail ≡ after_sign (text ++ rest) = sign.1 ∙ ap after_sign (sym parts) in
    let digits = front_taken is_digit front tail w.are_front (tail_stops w.point back w.exponent rest power w.is_point w.is_power h) in
    let left : tail ≡ after_digits (after_sign (text ++ rest)) = digits.1 ∙ ap after_digits body in
    let fraction = point_read w.point back w.exponent rest power w.is_point w.are_back w.is_power h in
    let end : last ≡ after_fraction (after_digits (after_sign (text ++ rest))) = fraction.1 ∙ ap after_fraction left in
    record {
      is_negative = sign.0 ∙ ap is_minus (sym parts);
      is_front = digits.0 ∙ ap (take_while is_digit) body;
      is_tail = left;
      is_back = fraction.0 ∙ ap fraction_digits left;
      is_last = end;
      is_rest = power_read w.exponent rest power w.is_power h ∙ ap after_exponent end;
    }

-- what is read after the first digits is a point with digits or nothing, and the rest
point_found : (text : List ℕ) → (point : List ℕ) × IsDigits (fraction_digits text) × ((point ≡ 46 ∷ fraction_digits text) ⊎ ((point ≡ []) × (fraction_digits text ≡ []))) × (text ≡ point ++ after_fraction text)
point_found [] = ([], refl, inr (refl, refl), refl)
point_found (b ∷ text) = elim (cases_Bool (b == 46)) [
  | inl e ↦ rw (eqb-true b 46 e) (46 ∷ take_while is_digit text, prefix_passes is_digit text, inl refl, ap (λ (s : List ℕ). 46 ∷ s) (sym (take-append-drop (prefix_len is_digit text) text)))
  | inr e ↦
      let none : fraction_digits (b ∷ text) ≡ [] = cond-false (b == 46) _ _ e in
      ([], rw none refl, inr (refl, none), sym (cond-false (b == 46) _ _ e))
]

-- what is read for an exponent is one, or nothing
abbrev IsExponentOf : List ℕ → Bool → List ℕ → List ℕ → Type 0
IsExponentOf text lowered digits rest = (exponent : List ℕ) × IsPowerOf exponent (signed lowered (value_of digits)) × (text ≡ exponent ++ rest)

-- and so it is found
exponent_found : (text : List ℕ) → IsExponentOf text (is_lowered text) (exponent_digits text) (after_exponent text)
exponent_found [] = ([], refl, refl)
exponent_found (b ∷ text) =
    let body = after_sign text in
    let digits = take_while is_digit body in
    elim (cases_Bool (begins_exponent b text)) [
      | inl e ↦
          let both = and_parts (is_exponent_letter b) _ e in
          let s = sign_found text in
          let number : IsIntegerOf (s.0 ++ digits) (signed (is_minus text) (value_of digits)) = record {
            negative = is_minus text;
            digits = digits;
            spelled = record { sign = s.0; is_sign = s.1; are_digits = (prefix_passes is_digit body, ltb-true 0 (length digits) both.1); parts = refl };
            value = refl;
          } in
          let whole : b ∷ text ≡ b ∷ (s.0 ++ digits ++ after_digits body) =
          ap (λ (x : List ℕ). b ∷ x) (s.2 ∙ (ap (λ (x : List ℕ). s.0 ++ x) (sym (take-append-drop (prefix_len is_digit body) body)) ∙ sym (append_assoc s.0 digits (after_digits body)))) in
          let found : IsExponentOf (b ∷ text) (is_minus text) digits (after_digits body) = (b ∷ (s.0 ++ digits), (both.0, number), whole) in
          subst (λ (x : Bool). IsExponentOf (b ∷ text) x (exponent_digits (b ∷ text)) (after_exponent (b ∷ text))) (sym (cond-true (begins_exponent b text) (is_minus text) false e))
          (subst (λ (x : List ℕ). IsExponentOf (b ∷ text) (is_minus text) x (after_exponent (b ∷ text))) (sym (cond-true (begins_exponent b text) digits [] e))
          (subst (λ (x : List ℕ). IsExponentOf (b ∷ text) (is_minus text) digits x) (sym (cond-true (begins_exponent b text) (after_digits body) (b ∷ text) e)) found))
      | inr e ↦
          let none : IsExponentOf (b ∷ text) false [] (b ∷ text) = ([], refl, refl) in
          subst (λ (x : Bool). IsExponentOf (b ∷ text) x (exponent_digits (b ∷ text)) (after_exponent (b ∷ text))) (sym (cond-false (begins_exponent b text) (is_minus text) false e))
          (subst (λ (x : List ℕ). IsExponentOf (b ∷ text) false x (after_exponent (b ∷ text))) (sym (cond-false (begins_exponent b text) digits [] e))
          (subst (λ (x : List ℕ). IsExponentOf (b ∷ text) false [] x) (sym (cond-false (begins_exponent b text) (after_digits body) (b ∷ text) e)) none))
    ]

-- its digits are digits
pub exponent_all : (text digits : List ℕ) → digits ≡ exponent_digits text → IsDigits digits
exponent_all [] digits e = rw e refl
exponent_all (b ∷ text) digits e =
    subst (λ (x : List ℕ). IsDigits x) (sym e) (cond_both (begins_exponent b text) (take_while is_digit (after_sign text)) [] (λ x. IsDigits x) (λ _. prefix_passes is_digit (after_sign text)) (λ _. refl))

-- a number that is found at the front of a text, and what follows its first digits
pub record IsFound (text : List ℕ) (negative : Bool) (front back : List ℕ) (power : ℤ) (tail rest : List ℕ) : Type 0 where
  pub spelling : List ℕ
  pub is_decimal : IsDecimal spelling negative front back power
  pub parts : text ≡ spelling ++ rest
  pub is_tail : tail ≡ is_decimal.point ++ (is_decimal.exponent ++ rest)

-- where there is a digit, the steps find one
pub decimal_found : (text unsigned front tail back last exponent rest : List ℕ) (negative lowered : Bool) → negative ≡ is_minus text → unsigned ≡ after_sign text → front ≡ take_while is_digit unsigned → tail ≡ after_digits unsigned
    → back ≡ fraction_digits tail → last ≡ after_fraction tail → lowered ≡ is_lowered last → exponent ≡ exponent_digits last → rest ≡ after_exponent last → 0 < length front + length back
    → IsFound text negative front back (signed lowered (value_of exponent)) tail rest
decimal_found text unsigned front tail back last exponent rest negative lowered n u f t b l w e r some =
    let s = sign_found text in
    let p = point_found tail in
    let x = exponent_found last in
    let begin : text ≡ s.0 ++ unsigned = s.2 ∙ ap (λ (z : List ℕ). s.0 ++ z) (sym u) in
    let cut : unsigned ≡ front ++ tail = rw (f, t) (sym (take-append-drop (prefix_len is_digit unsigned) unsigned)) in
    let power : IsPowerOf x.0 (signed lowered (value_of exponent)) = rw (w, e) x.1 in
    let end : last ≡ x.0 ++ rest = x.2 ∙ ap (λ (z : List ℕ). x.0 ++ z) (sym r) in
    let is_tail : tail ≡ p.0 ++ (x.0 ++ rest) = p.3 ∙ ap (λ (z : List ℕ). p.0 ++ z) (sym l ∙ end) in
    let whole : text ≡ s.0 ++ (front ++ (p.0 ++ (x.0 ++ rest))) = begin ∙ ap (λ (z : List ℕ). s.0 ++ z) (cut ∙ ap (λ (z : List ℕ). front ++ z) is_tail) in
    record {
      spelling = s.0 ++ front ++ p.0 ++ x.0;
      is_decimal = record {
        sign = s.0;
        point = p.0;
        exponent = x.0;
        is_sign = rw n s.1;
        are_front = rw f (prefix_passes is_digit unsigned);
        are_back = rw b p.1;
        some = some;
        is_point = rw b p.2;
        is_power = power;
        parts = refl;
      };
      parts = whole ∙ sym (append_assoc (s.0 ++ front ++ p.0) x.0 rest ∙ (append_assoc (s.0 ++ front) p.0 (x.0 ++ rest) ∙ append_assoc s.0 front (p.0 ++ (x.0 ++ rest))));
      is_tail = is_tail;
    }

-- so a decimal stands at the front
pub decimal_begins : (text unsigned front tail back last exponent rest : List ℕ) (negative lowered : Bool) → negative ≡ is_minus text → unsigned ≡ after_sign text → front ≡ take_while is_digit unsigned → tail ≡ after_digits unsigned
    → back ≡ fraction_digits tail → last ≡ after_fraction tail → lowered ≡ is_lowered last → exponent ≡ exponent_digits last → rest ≡ after_exponent last → 0 < length front + length back
    → BeginsWithDecimal text negative front back (signed lowered (value_of exponent)) rest
decimal_begins text unsigned front tail back last exponent rest negative lowered n u f t b l w e r some =
    let d = decimal_found text unsigned front tail back last exponent rest negative lowered n u f t b l w e r some in
    record { spelling = d.spelling; is_decimal = d.is_decimal; parts = d.parts }

-- and what follows it is no longer than the text
pub begins_within : (text front back rest : List ℕ) (negative : Bool) (power : ℤ) → BeginsWithDecimal text negative front back power rest → length rest ≤ length text
begins_within text front back rest negative power w = omega (arith, ap length w.parts, length-append w.spelling rest)

pub ruleset split_steps = (decimal_begins, begins_within, exponent_all)

-- the parts of a decimal, and the size and the sign of its number
abbrev pub Stands : Bool → List ℕ → List ℕ → ℤ → ℕ → ℤ → Type 0
Stands negative front back power size number = (number ≡ signed negative size) × IsExactly front back power size

-- a text that denotes a number does so by the parts of any of its readings
pub by_parts : (text : List ℕ) (negative : Bool) (front back : List ℕ) (power number : ℤ) → IsDecimal text negative front back power → (w : Denotes text number) → Stands negative front back power w.size number
by_parts text negative front back power number d w =
    let a = decimal_read text [] negative front back power d tt in
    let b = decimal_read text [] w.negative w.front w.back w.power w.spelled tt in
    let n : w.negative ≡ negative = b.is_negative ∙ sym a.is_negative in
    let f : w.front ≡ front = b.is_front ∙ sym a.is_front in
    let k : w.back ≡ back = b.is_back ∙ sym a.is_back in
    let x : w.spelled.exponent ≡ d.exponent = sym (append-nil w.spelled.exponent) ∙ (b.is_last ∙ (sym a.is_last ∙ append-nil d.exponent)) in
    let p : w.power ≡ power = one_power d.exponent w.power power (subst (λ (z : List ℕ). IsPowerOf z w.power) x w.spelled.is_power) d.is_power in
    let w0 : Stands w.negative w.front w.back w.power w.size number = (w.value, w.exact) in
    let w1 = subst (λ (z : Bool). Stands z w.front w.back w.power w.size number) n w0 in
    let w2 = subst (λ (z : List ℕ). Stands negative z w.back w.power w.size number) f w1 in
    let w3 = subst (λ (z : List ℕ). Stands negative front z w.power w.size number) k w2 in
    subst (λ (z : ℤ). Stands negative front back z w.size number) p w3

-- the size of a number with a sign
pub abs-signed : (negative : Bool) (size : ℕ) → unsigned_abs (signed negative size) ≡ size
abs-signed false size = refl
abs-signed true zero = refl
abs-signed true (suc size) = refl

-- a text denotes a number exactly by its size and its sign
pub denotes_size : (text : List ℕ) (negative : Bool) (front back : List ℕ) (power number : ℤ) → IsDecimal text negative front back power
    → ((number ≡ signed negative (unsigned_abs number)) × IsExactly front back power (unsigned_abs number)) ↔ Denotes text number
denotes_size text negative front back power number d = (
  λ w. record { negative = negative; front = front; back = back; power = power; size = unsigned_abs number; spelled = d; exact = w.1; value = w.0 },
  λ w. let s = by_parts text negative front back power number d w in
      let e : w.size ≡ unsigned_abs number = sym (ap unsigned_abs s.0 ∙ abs-signed negative w.size) in
      subst (λ (z : ℕ). Stands negative front back power z number) e s,
)

-- a text denotes one number at most
pub one_denoted : (text : List ℕ) (m n : ℤ) → Denotes text m → Denotes text n → m ≡ n
one_denoted text m n v w =
    let s = by_parts text v.negative v.front v.back v.power n v.spelled w in
    let e : v.size ≡ w.size = cancel v.size w.size (length v.back + lowered v.power) (sym v.exact ∙ s.1) in
    v.value ∙ (ap (λ (z : ℕ). signed v.negative z) e ∙ sym s.0)

-- exactness of 0
pub exact_zero : (front back : List ℕ) (power : ℤ) (number : ℕ) → number ≡ 0 → (value_of (front ++ back) ≡ 0) ↔ IsExactly front back power number
exact_zero front back power number z = zero_times (value_of (front ++ back)) (raised power) (length back + lowered power) number z

-- a number that isn't above 0 may have a minus sign
pub minus_sign : (number : ℤ) → (number ≤ℤ pos 0) ↔ (number ≡ signed true (unsigned_abs number))
minus_sign (pos zero) = (λ h. refl, λ e. omega (arith, ints))
minus_sign (pos (suc n)) = (λ h. absurd (omega (arith, ints)), λ e. (cc))
minus_sign (negsuc n) = (λ h. refl, λ e. omega (arith, ints))

-- a number that isn't below 0 needs none
pub plus_sign : (number : ℤ) → (pos 0 ≤ℤ number) ↔ (number ≡ signed false (unsigned_abs number))
plus_sign (pos n) = (λ h. refl, λ e. omega (arith, ints))
plus_sign (negsuc n) = (λ h. absurd (omega (arith, ints)), λ e. (cc))

pub ruleset signs = (minus_sign, plus_sign)

-- each integer has a number
pub integer_has_number : (text : List ℕ) → IsInteger text → (n : ℤ) × IsIntegerOf text n
integer_has_number text w = (signed w.negative (value_of w.digits), record { negative = w.negative; digits = w.digits; spelled = w.spelled; value = refl })

-- an integer is a decimal
unfoldable pub integer_decimal : (text : List ℕ) (negative : Bool) (digits : List ℕ) → IsSigned text negative digits → IsDecimal text negative digits [] (pos 0)
integer_decimal text negative digits s = record {
  sign = s.sign;
  point = [];
  exponent = [];
  is_sign = s.is_sign;
  are_front = s.are_digits.0;
  are_back = refl;
  some = let h = s.are_digits.1 in omega arith;
  is_point = inr (refl, refl);
  is_power = refl;
  parts = s.parts ∙ (sym (append-nil (s.sign ++ digits)) ∙ sym (append-nil (s.sign ++ digits ++ [])));
}

-- so is each number
pub number_decimal : (text : List ℕ) → IsNumber text → (negative : Bool) × (front : List ℕ) × (back : List ℕ) × (power : ℤ) × IsDecimal text negative front back power
number_decimal text (inl i) = (i.negative, i.digits, [], pos 0, integer_decimal text i.negative i.digits i.spelled)
number_decimal text (inr i) = (i.negative, i.front, i.back, i.power, i.spelled)

-- an integer denotes its number
pub integer_denotes : (text : List ℕ) (n : ℤ) → IsIntegerOf text n → Denotes text n
integer_denotes text n w =
    let spelled = integer_decimal text w.negative w.digits w.spelled in
    record { negative = w.negative; front = w.digits; back = []; power = pos 0; size = value_of w.digits; spelled = spelled; exact = ap (λ (ds : List ℕ). value_of ds * 10 ^ 0) (append-nil w.digits); value = w.value }

-- a decimal with no point and no exponent is an integer
pub decimal_integer : (text : List ℕ) (negative : Bool) (front back : List ℕ) (power : ℤ) → (d : IsDecimal text negative front back power) → length d.point + length d.exponent ≡ 0 → IsInteger text
decimal_integer text negative front back power d none =
    let point : d.point ≡ [] = nil_from_length d.point (omega (arith, none)) in
    let exponent : d.exponent ≡ [] = nil_from_length d.exponent (omega (arith, none)) in
    let bare : length back ≡ 0 = elim d.is_point [ inl e ↦ absurd (omega (arith, none, ap length e)) | inr e ↦ ap length e.1 ] in
    let whole : text ≡ d.sign ++ front = d.parts ∙ rw (point, exponent) (append-nil (d.sign ++ front ++ []) ∙ append-nil (d.sign ++ front)) in
    record { negative = negative; digits = front; spelled = record { sign = d.sign; is_sign = d.is_sign; are_digits = (d.are_front, omega (arith, d.some, bare)); parts = whole } }

-- one with either is a real
pub decimal_real : (text : List ℕ) (negative : Bool) (front back : List ℕ) (power : ℤ) → (d : IsDecimal text negative front back power) → 0 < length d.point + length d.exponent → IsReal text
decimal_real text negative front back power d some = record {
  negative = negative;
  front = front;
  back = back;
  power = power;
  spelled = d;
  form = elim d.is_point [ inl e ↦ inl e | inr e ↦ inr (omega (arith, some, ap length e.0)) ];
}

-- each decimal is an integer or a real
pub decimal_number : (text : List ℕ) (negative : Bool) (front back : List ℕ) (power : ℤ) → IsDecimal text negative front back power → IsNumber text
decimal_number text negative front back power d = elim (cases_eq (length d.point + length d.exponent) 0) [
  | inl none ↦ inl (decimal_integer text negative front back power d none)
  | inr some ↦ inr (decimal_real text negative front back power d (omega arith))
]

-- only an integer or a real denotes a number
pub denotes_spelling : (text : List ℕ) (n : ℤ) → Denotes text n → IsNumber text
denotes_spelling text n w = decimal_number text w.negative w.front w.back w.power w.spelled
