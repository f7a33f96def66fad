-- The number that digits stand for.
use Rattle.std.proofs.Common.{◌≡◌, ℕ, ◌<◌, ◌≤◌, ◌+◌, ◌-◌, ◌*◌, ◌^◌, ◌%◌, ◌/◌, ◌≢◌, zero, inl, inr, List, [], ◌∷◌, ◌++◌, length, take, drop, get_or, suc, refl, sym, ◌∙◌, ap, arith, append_assoc, length-append, lit<}
use Rattle.std.specs.List.{list_all, fold}
use Rattle.std.specs.Prelude.{IsTrue, ◌↔◌, nat_le}
use Rattle.std.proofs.lemmas.List.{take-append-drop, length-drop, append-nil}
use Rattle.std.proofs.lemmas.List.Sums.{fold_more, fold-append}
use Rattle.std.proofs.lemmas.Bool.{and_parts, and_from, leb-true, cases_order}
use Rattle.std.proofs.Math.Nat.{pow-suc, mul-le-mul_right, mul-le-mul_left, mul-mod_left, mul_assoc}
use Rattle.std.proofs.lemmas.Nat.{pow-add}
use Rattle.fits_value.specs.Spelling.{is_digit, IsDigits}
use Rattle.fits_value.specs.Number.{with_digit, value_of}

-- more digits make no smaller number
pub fold_ge : (n : ℕ) (ds : List ℕ) → n ≤ fold with_digit n ds
fold_ge n [] = omega arith
fold_ge n (d ∷ ds) = omega (arith, fold_ge (with_digit n d) ds)

-- the number of one more digit
pub value_more : (ds : List ℕ) (i : ℕ) → i < length ds → value_of (take (i + 1) ds) ≡ value_of (take i ds) * 10 + (get_or ds i 0 - 48)
value_more ds i h = fold_more with_digit 0 ds i 0 h

-- a prefix has no larger number
pub value_front : (ds : List ℕ) (i : ℕ) → value_of (take i ds) ≤ value_of ds
value_front ds i =
    let e : value_of ds ≡ fold with_digit (value_of (take i ds)) (drop i ds) = ap value_of (sym (take-append-drop i ds)) ∙ fold-append with_digit 0 (take i ds) (drop i ds) in
    omega (arith, fold_ge (value_of (take i ds)) (drop i ds))

-- one digit more is already too large
pub over : (start : ℕ) (ds : List ℕ) (i n limit : ℕ) → i < length ds → n ≡ fold with_digit start (take i ds) → limit < n * 10 + (get_or ds i 0 - 48) → limit < fold with_digit start ds
over start ds i n limit h e large =
    let more = fold_more with_digit start ds i 0 h in
    let whole : fold with_digit start ds ≡ fold with_digit (fold with_digit start (take (i + 1) ds)) (drop (i + 1) ds) =
    ap (fold with_digit start) (sym (take-append-drop (i + 1) ds)) ∙ fold-append with_digit start (take (i + 1) ds) (drop (i + 1) ds) in
    omega (arith, more, whole, fold_ge (fold with_digit start (take (i + 1) ds)) (drop (i + 1) ds))

-- the digits in two parts
pub fold_from : (n : ℕ) (ds : List ℕ) → fold with_digit n ds ≡ n * 10 ^ length ds + value_of ds
fold_from n [] = omega arith
fold_from n (d ∷ ds) =
    let p : 10 ^ suc (length ds) ≡ 10 ^ length ds * 10 = pow-suc 10 (length ds) in
    rw p (omega (arith, fold_from (with_digit n d) ds, fold_from (with_digit 0 d) ds))

-- the number of two lists of digits
pub value_append : (xs ys : List ℕ) → value_of (xs ++ ys) ≡ value_of xs * 10 ^ length ys + value_of ys
value_append xs ys = fold-append with_digit 0 xs ys ∙ fold_from (value_of xs) ys

-- a power of ten is above 0
pub ten_pos : (k : ℕ) → 0 < 10 ^ k
ten_pos zero = omega arith
ten_pos (suc k) = rw (pow-suc 10 k) (omega (arith, ten_pos k))

-- so many digits stay below that power of ten
pub value_lt : (ds : List ℕ) → IsDigits ds → value_of ds < 10 ^ length ds
value_lt [] a = omega arith
value_lt (d ∷ ds) a =
    let b = and_parts (is_digit d) (list_all is_digit ds) a in
    let high : d ≤ 57 = leb-true d 57 (and_parts (nat_le 48 d) (nat_le d 57) b.0).1 in
    let nine : d - 48 ≤ 9 = omega arith in
    let c : (d - 48) * 10 ^ length ds ≤ 9 * 10 ^ length ds = mul-le-mul_right (10 ^ length ds) nine in
    rw (pow-suc 10 (length ds)) (omega (arith, fold_from (with_digit 0 d) ds, value_lt ds b.1, c))

-- what is left of digits is digits
pub drop_digits : (n : ℕ) (ds : List ℕ) → IsDigits ds → IsTrue (list_all is_digit (drop n ds))
drop_digits zero ds a = a
drop_digits (suc n) [] a = a
drop_digits (suc n) (d ∷ ds) a = drop_digits n ds (and_parts (is_digit d) _ a).1

-- a number has one quotient and rest
pub unique : (a m p v : ℕ) → v < p → a * p + v ≡ m * p → (a ≡ m) × (v ≡ 0)
unique a m p v lt e = elim (cases_order a m) [
  | inl same ↦ let x : a * p ≡ m * p = ap (λ (y : ℕ). y * p) same in (same, omega arith)
  | inr w ↦ elim w [
    | inl below ↦ let x : (a + 1) * p ≤ m * p = mul-le-mul_right p (omega arith) in absurd (omega arith)
    | inr above ↦ let x : (m + 1) * p ≤ a * p = mul-le-mul_right p (omega arith) in absurd (omega arith)
  ]
]

-- a digit above 0 makes a number above 0
pub not_zero : (ds : List ℕ) (i : ℕ) → i < length ds → IsDigits ds → 48 < get_or ds i 0 → value_of ds ≡ 0 → ⊥
not_zero ds i h a d e = omega (arith, value_more ds i h, value_front ds (i + 1))

-- a number with a last digit other than 0 is no multiple of ten
pub no_more : (m n i k : ℕ) → n ≢ 0 → n ≡ m % 10 → i < k → (x : ℕ) → x * 10 ^ k ≡ m * 10 ^ i → ⊥
no_more m n i k ne is lt x e =
    let j = k - i - 1 in
    let s : k ≡ i + suc j = omega arith in
    let p : 10 ^ k ≡ 10 ^ i * (10 ^ j * 10) = ap (λ (y : ℕ). 10 ^ y) s ∙ (pow-add 10 i (suc j) ∙ ap (λ (y : ℕ). 10 ^ i * y) (pow-suc 10 j)) in
    let q : (x * 10 ^ j * 10) * 10 ^ i + 0 ≡ m * 10 ^ i = let f : x * 10 ^ k ≡ (x * 10 ^ j * 10) * 10 ^ i = rw p (omega arith) in omega (arith, e, f) in
    let same : x * 10 ^ j * 10 ≡ m = (unique (x * 10 ^ j * 10) m (10 ^ i) 0 (ten_pos i) q).0 in
    ne (is ∙ (ap (λ (y : ℕ). y % 10) (sym same) ∙ mul-mod_left (x * 10 ^ j) 10))

-- equal multiples of a power of ten have equal factors
pub cancel : (a b k : ℕ) → a * 10 ^ k ≡ b * 10 ^ k → a ≡ b
cancel a b k e = let f : a * 10 ^ k + 0 ≡ b * 10 ^ k = omega (arith, e) in (unique a b (10 ^ k) 0 (ten_pos k) f).0

-- a shift to the left, and one to the right
pub by_left : (v m up down : ℕ) → down ≤ up → (v * 10 ^ (up - down) ≡ m) ↔ (v * 10 ^ up ≡ m * 10 ^ down)
by_left v m up down h =
    let s : up ≡ up - down + down = omega arith in
    let p : v * 10 ^ up ≡ v * 10 ^ (up - down) * 10 ^ down = ap (λ (y : ℕ). v * 10 ^ y) s ∙ (ap (λ (y : ℕ). v * y) (pow-add 10 (up - down) down) ∙ sym (mul_assoc v (10 ^ (up - down)) (10 ^ down))) in
    (λ e. p ∙ ap (λ (y : ℕ). y * 10 ^ down) e, λ e. cancel _ _ down (sym p ∙ e))

-- powers of ten on both sides, the right one no smaller
pub by_right : (v m up down : ℕ) → up ≤ down → (v ≡ m * 10 ^ (down - up)) ↔ (v * 10 ^ up ≡ m * 10 ^ down)
by_right v m up down h = let w = by_left m v down up h in (λ e. sym (w.0 (sym e)), λ e. sym (w.1 (sym e)))

-- exactly 0 times a power of ten is 0
pub zero_times : (v up down m : ℕ) → m ≡ 0 → (v ≡ 0) ↔ (v * 10 ^ up ≡ m * 10 ^ down)
zero_times v up down m z =
    let zero_right : m * 10 ^ down ≡ 0 = ap (λ (y : ℕ). y * 10 ^ down) z ∙ omega arith in (
      λ e. ap (λ (y : ℕ). y * 10 ^ up) e ∙ (let w : 0 * 10 ^ up ≡ 0 = omega arith in w ∙ sym zero_right),
      λ e. let f : v * 10 ^ up + 0 ≡ 0 * 10 ^ up = omega (arith, e, zero_right) in (unique v 0 (10 ^ up) 0 (ten_pos up) f).0,
    )

-- digits of which the last are to be zeros
pub by_zeros : (front back : List ℕ) (m k : ℕ) → length back ≡ k → IsDigits back → ((value_of front ≡ m) × (value_of back ≡ 0)) ↔ (value_of (front ++ back) ≡ m * 10 ^ k)
by_zeros front back m k size a =
    let two : value_of (front ++ back) ≡ value_of front * 10 ^ k + value_of back = value_append front back ∙ ap (λ (y : ℕ). value_of front * 10 ^ y + value_of back) size in
    let low : value_of back < 10 ^ k = (rw size at (value_lt back a)) in
    (λ w. two ∙ rw (w.0, w.1) (omega arith), λ w. unique (value_of front) m (10 ^ k) (value_of back) low (sym two ∙ w))

-- digits that are all to be zeros
pub by_all_zeros : (front back : List ℕ) → IsDigits back → ((value_of front ≡ 0) × (value_of back ≡ 0)) ↔ (value_of (front ++ back) ≡ 0)
by_all_zeros front back a =
    let w = by_zeros front back 0 (length back) refl a in
    let none : 0 * 10 ^ length back ≡ 0 = omega arith in
    (λ z. w.0 z ∙ none, λ z. w.1 (z ∙ sym none))

-- digits that are too few
pub too_few : (ds : List ℕ) (m k : ℕ) → length ds < k → 0 < m → IsDigits ds → value_of ds ≡ m * 10 ^ k → ⊥
too_few ds m k short pos a e =
    let s : k ≡ length ds + (k - length ds) = omega arith in
    let p : 10 ^ k ≡ 10 ^ length ds * 10 ^ (k - length ds) = ap (λ (y : ℕ). 10 ^ y) s ∙ pow-add 10 (length ds) (k - length ds) in
    let one : 10 ^ length ds * 1 ≤ 10 ^ length ds * 10 ^ (k - length ds) = mul-le-mul_left (10 ^ length ds) (ten_pos (k - length ds)) in
    let more : 1 * 10 ^ k ≤ m * 10 ^ k = mul-le-mul_right (10 ^ k) pos in
    omega (arith, value_lt ds a, e, one, p, more)

-- a digit lies from 48 to 57
pub digit_at : (ds : List ℕ) (i : ℕ) → IsDigits ds → i < length ds → (48 ≤ get_or ds i 0) × (get_or ds i 0 ≤ 57)
digit_at [] i a h = absurd (omega arith)
digit_at (d ∷ ds) zero a h = let b = and_parts _ _ (and_parts (is_digit d) _ a).0 in (leb-true 48 d b.0, leb-true d 57 b.1)
digit_at (d ∷ ds) (suc i) a h = digit_at ds i (and_parts (is_digit d) _ a).1 (omega arith)

-- two equivalences, one after the other
pub iff_join : {A B C : Type 0} → A ↔ B → B ↔ C → A ↔ C
iff_join f g = (λ a. g.0 (f.0 a), λ c. f.1 (g.1 c))

-- a number without its zeros at the end
pub via_lowered : (v m k n : ℕ) → m * 10 ^ k ≡ n → (v ≡ m) ↔ (v * 10 ^ k ≡ n)
via_lowered v m k n e = (λ f. ap (λ (y : ℕ). y * 10 ^ k) f ∙ e, λ f. cancel v m k (f ∙ sym e))

-- one more zero is taken off
pub lower : (m i n : ℕ) → m % 10 ≡ 0 → m * 10 ^ i ≡ n → m / 10 * 10 ^ (i + 1) ≡ n
lower m i n z e =
    let q : m / 10 * 10 ≡ m = omega arith in
    let p : 10 ^ (i + 1) ≡ 10 ^ i * 10 = pow-add 10 i 1 in
    let r : (m / 10 * 10) * 10 ^ i ≡ m * 10 ^ i = ap (λ (y : ℕ). y * 10 ^ i) q in
    ap (λ (y : ℕ). m / 10 * y) p ∙ omega (arith, e, r)

-- digits after digits are digits
pub digits_joined : (xs ys : List ℕ) → IsDigits xs → IsDigits ys → IsDigits (xs ++ ys)
digits_joined [] ys a b = b
digits_joined (x ∷ xs) ys a b = let w = and_parts (is_digit x) (list_all is_digit xs) a in and_from _ _ w.0 (digits_joined xs ys w.1 b)

-- the digits of two parts, one after the other
pub value_joined : (front back : List ℕ) (start : ℕ) → start ≡ value_of front → fold with_digit start back ≡ value_of (front ++ back)
value_joined front back start e = ap (λ (n : ℕ). fold with_digit n back) e ∙ sym (fold-append with_digit 0 front back)

-- the first part is no more than both
pub value_front-le : (front back : List ℕ) → value_of front ≤ value_of (front ++ back)
value_front-le front back = omega (arith, fold_ge (value_of front) back, fold-append with_digit 0 front back)

pub ruleset joined_values = (value_joined, value_front-le)

-- the point moved to the left, into the digits before it
pub moved_left : (front whole behind back : List ℕ) (i places m : ℕ) → whole ≡ take i front → behind ≡ drop i front → i + places ≡ length front → IsDigits front → IsDigits back
    → ((value_of (whole ++ []) ≡ m) × (value_of (behind ++ back) ≡ 0)) ↔ (value_of (front ++ back) ≡ m * 10 ^ (length back + places))
moved_left front whole behind back i places m e f h a b =
    let same : front ++ back ≡ whole ++ (behind ++ back) =
    rw (e, f) (ap (λ (z : List ℕ). z ++ back) (sym (take-append-drop i front)) ∙ append_assoc (take i front) (drop i front) back) in
    let size : length (behind ++ back) ≡ length back + places = rw f (omega (arith, length-append {A = ℕ}, length-drop i front)) in
    let are_behind : IsDigits behind = rw f (drop_digits i front a) in
    let w = by_zeros whole (behind ++ back) m (length back + places) size (digits_joined behind back are_behind b) in
    (λ u. ap value_of same ∙ w.0 (ap value_of (sym (append-nil whole)) ∙ u.0, u.1), λ u. let v = w.1 (sym (ap value_of same) ∙ u) in (ap value_of (append-nil whole) ∙ v.0, v.1))

-- the point moved to the right, into the digits after it
pub moved_right : (front back whole behind : List ℕ) (n places m : ℕ) → whole ≡ take n back → behind ≡ drop n back → n ≡ places → places ≤ length back → IsDigits back
    → ((value_of (front ++ whole) ≡ m) × (value_of behind ≡ 0)) ↔ (value_of (front ++ back) * 10 ^ places ≡ m * 10 ^ length back)
moved_right front back whole behind n places m e f i h b =
    let same : front ++ back ≡ (front ++ whole) ++ behind =
    rw (e, f) (ap (λ (z : List ℕ). front ++ z) (sym (take-append-drop n back)) ∙ sym (append_assoc front (take n back) (drop n back))) in
    let size : length behind ≡ length back - places = rw (f, i) (length-drop places back) in
    let w = by_zeros (front ++ whole) behind m (length back - places) size (rw f (drop_digits n back b)) in
    let r = by_right (value_of (front ++ back)) m places (length back) h in
    (λ u. r.0 (ap value_of same ∙ w.0 u), λ u. w.1 (sym (ap value_of same) ∙ r.1 u))

-- the point moved to the right, past the digits after it
pub raised_more : (v rest m n places down : ℕ) → n ≡ places → down ≤ n → rest * 10 ^ (n - down) ≡ m → (v ≡ rest) ↔ (v * 10 ^ places ≡ m * 10 ^ down)
raised_more v rest m n places down i h e =
    let same : v * 10 ^ n ≡ v * 10 ^ places = ap (λ (y : ℕ). v * 10 ^ y) i in
    let w = iff_join (via_lowered v rest (n - down) m e) (by_left v m n down h) in
    (λ f. sym same ∙ w.0 f, λ f. w.1 (same ∙ f))

-- where the number does not end in that many zeros
pub raised_none : (v m n places down : ℕ) → n ≡ places → down ≤ n → ((x : ℕ) → x * 10 ^ (n - down) ≡ m → ⊥) → v * 10 ^ places ≡ m * 10 ^ down → ⊥
raised_none v m n places down i h none e =
    let same : v * 10 ^ n ≡ v * 10 ^ places = ap (λ (y : ℕ). v * 10 ^ y) i in
    none v ((by_left v m n down h).1 (same ∙ e))

-- an exponent that lowers by more than the digits before the point
pub too_low : (front back : List ℕ) (m places : ℕ) → length front < places → 0 < m → IsDigits front → IsDigits back → value_of (front ++ back) ≡ m * 10 ^ (length back + places) → ⊥
too_low front back m places short some a b = too_few (front ++ back) m (length back + places) (omega (arith, length-append {A = ℕ})) some (digits_joined front back a b)

-- ten to a larger power is more
pub pow-le : (a b : ℕ) → a ≤ b → 10 ^ a ≤ 10 ^ b
pow-le a b h =
    let s : b ≡ a + (b - a) = omega arith in
    let p : 10 ^ b ≡ 10 ^ a * 10 ^ (b - a) = ap (λ (y : ℕ). 10 ^ y) s ∙ pow-add 10 a (b - a) in
    let one : 10 ^ a * 1 ≤ 10 ^ a * 10 ^ (b - a) = mul-le-mul_left (10 ^ a) (ten_pos (b - a)) in
    omega (arith, p, one)

-- an exponent that raises past the largest number
pub too_high : (v m places down most : ℕ) → m < 10 ^ most → 0 < m → down + most < places → v * 10 ^ places ≡ m * 10 ^ down → ⊥
too_high v m places down most bound some far e =
    let f : v * 10 ^ (places - down) ≡ m = (by_left v m places down (omega arith)).1 e in
    elim (cases_order v 0) [
      | inl z ↦ let x : v * 10 ^ (places - down) ≡ 0 * 10 ^ (places - down) = ap (λ (y : ℕ). y * 10 ^ (places - down)) z in absurd (omega arith)
      | inr w ↦ elim w [
        | inl below ↦ absurd (omega arith)
        | inr above ↦
            let one : 1 * 10 ^ (places - down) ≤ v * 10 ^ (places - down) = mul-le-mul_right (10 ^ (places - down)) above in
            let more : 10 ^ most ≤ 10 ^ (places - down) = pow-le most (places - down) (omega arith) in
            absurd (omega arith)
      ]
    ]

-- any number of 127 bits has fewer than 40 digits
pub below_most : (m : ℕ) → m ≤ 2 ^ 127 → m < 10 ^ 39
below_most m h = let small : 2 ^ 127 < 10 ^ 39 = lit< tt in omega arith
