-- Names as numbers.
use Rattle.std.proofs.Common.{◌≡◌, ◌↔◌, IsTrue, ℕ, ◌+◌, ◌*◌, ◌/◌, ◌%◌, ◌<◌, ◌^◌, ◌==◌, nat_lt, Bool, true, false, cond, List, [], ◌∷◌, length, get_or, ap, sym, ◌∙◌, refl, arith, inl, inr}
use Rattle.std.specs.List.{All}
use Rattle.std.specs.Cmp.Lexicographic.{slice_cmp}
use Rattle.std.specs.Int.{from_be_bytes, to_be_bytes, w64}
use Rattle.std.specs.declared.cmp.Ordering.TheVariants.{Less, Equal, Greater}
use Rattle.std.specs.Ordering.{nat_cmp, is_lt, is_eq, ordering_then}
use Rattle.std.specs.Str.{bytes_eq}
use Rattle.std.proofs.lemmas.Bool.{cases_lt}
use Rattle.std.proofs.lemmas.List.{get_or_past}
use Rattle.std.proofs.lemmas.Bool.Decides.{nat_tests}
use Rattle.std.proofs.lemmas.List.Elements.{All-tail, All-nil, All-cons}
use Rattle.std.proofs.lemmas.Map.Text.{is_eq-slice_cmp}
use Rattle.std.proofs.lemmas.Nat.{be_bytes_8, from_be_bytes-to_be_bytes_8}
use Rattle.fits_header.specs.Names.{IsName, name_number, is_before}

-- a byte
abbrev IsByte : ℕ → Type 0
IsByte byte = byte < 256

-- the number of bytes, the first one weighing most, behind another number
abbrev number_behind : ℕ → List ℕ → ℕ
number_behind n [] = n
number_behind n (byte ∷ bytes) = number_behind (256 * n + byte) bytes

-- a smaller number stays smaller behind as many bytes
smaller : (m n : ℕ) (xs ys : List ℕ) → length xs ≡ length ys → All IsByte xs → All IsByte ys → m < n → number_behind m xs < number_behind n ys
smaller m n [] [] e h g less = less
smaller m n [] (y ∷ ys) e h g less = absurd (omega arith)
smaller m n (x ∷ xs) [] e h g less = absurd (omega arith)
smaller m n (x ∷ xs) (y ∷ ys) e h g less =
    let low : x < 256 = h 0 x (omega arith) in
    smaller (256 * m + x) (256 * n + y) xs ys (omega arith) (All-tail IsByte x xs h) (All-tail IsByte y ys g) (omega arith)

-- a smaller number compares as less
is_less : (m n : ℕ) → m < n → nat_cmp m n ≡ Less
is_less m n h = let t : nat_lt m n ≡ true = grind (arith, nat_tests) in rw t refl

-- an equal one as equal
is_same : (m n : ℕ) → m ≡ n → nat_cmp m n ≡ Equal
is_same m n h =
    let t : nat_lt m n ≡ false = grind (arith, nat_tests) in
    let u : (m == n) ≡ true = grind (arith, nat_tests) in
    rw (t, u) refl

-- a larger one as greater
is_greater : (m n : ℕ) → n < m → nat_cmp m n ≡ Greater
is_greater m n h =
    let t : nat_lt m n ≡ false = grind (arith, nat_tests) in
    let u : (m == n) ≡ false = grind (arith, nat_tests) in
    rw (t, u) refl

-- the order of bytes is that of their numbers
cmp-numbers : (n : ℕ) (xs ys : List ℕ) → length xs ≡ length ys → All IsByte xs → All IsByte ys → slice_cmp nat_cmp xs ys ≡ nat_cmp (number_behind n xs) (number_behind n ys)
cmp-numbers n [] [] e h g = sym (is_same n n refl)
cmp-numbers n [] (y ∷ ys) e h g = absurd (omega arith)
cmp-numbers n (x ∷ xs) [] e h g = absurd (omega arith)
cmp-numbers n (x ∷ xs) (y ∷ ys) e h g =
    let size : length xs ≡ length ys = omega arith in
    let low = All-tail IsByte x xs h in
    let high = All-tail IsByte y ys g in
    let more = cmp-numbers (256 * n + x) xs ys size low high in
    elim (cases_lt x y) [
      | inl less ↦ ap (λ o. ordering_then o (slice_cmp nat_cmp xs ys)) (is_less x y less) ∙ sym (is_less _ _ (smaller (256 * n + x) (256 * n + y) xs ys size low high (omega arith)))
      | inr no_less ↦ elim (cases_lt y x) [
        | inl less ↦ ap (λ o. ordering_then o (slice_cmp nat_cmp xs ys)) (is_greater x y less) ∙ sym (is_greater _ _ (smaller (256 * n + y) (256 * n + x) ys xs (sym size) high low (omega arith)))
        | inr no_more ↦ ap (λ o. ordering_then o (slice_cmp nat_cmp xs ys)) (is_same x y (omega arith)) ∙ (more ∙ ap (λ z. nat_cmp (number_behind (256 * n + x) xs) (number_behind (256 * n + z) ys)) {x = x} {y = y} (omega arith))
      ]
    ]

-- the number of eight bytes
number-is : (name : List ℕ) → length name ≡ 8 → name_number name ≡ number_behind 0 name
unfolding name_number
number-is [] l = absurd (omega arith)
number-is (a ∷ []) l = absurd (omega arith)
number-is (a ∷ b ∷ []) l = absurd (omega arith)
number-is (a ∷ b ∷ c ∷ []) l = absurd (omega arith)
number-is (a ∷ b ∷ c ∷ d ∷ []) l = absurd (omega arith)
number-is (a ∷ b ∷ c ∷ d ∷ e ∷ []) l = absurd (omega arith)
number-is (a ∷ b ∷ c ∷ d ∷ e ∷ f ∷ []) l = absurd (omega arith)
number-is (a ∷ b ∷ c ∷ d ∷ e ∷ f ∷ g ∷ []) l = absurd (omega arith)
number-is (a ∷ b ∷ c ∷ d ∷ e ∷ f ∷ g ∷ h ∷ []) l = omega arith
number-is (a ∷ b ∷ c ∷ d ∷ e ∷ f ∷ g ∷ h ∷ i ∷ rest) l = absurd (omega arith)

-- names are in the order of their numbers
name-cmp : (a b : List ℕ) → IsName a → IsName b → slice_cmp nat_cmp a b ≡ nat_cmp (name_number a) (name_number b)
name-cmp a b h g =
    cmp-numbers 0 a b (h.size ∙ sym g.size) h.bytes g.bytes ∙ sym (ap (λ n. nat_cmp n (name_number b)) (number-is a h.size) ∙ ap (nat_cmp (number_behind 0 a)) (number-is b g.size))

-- less, by the two tests
lt_by : (b c : Bool) → is_lt (cond b Less (cond c Equal Greater)) ≡ b
lt_by true c = refl
lt_by false true = refl
lt_by false false = refl

-- equal, by the two tests
eq_by : (b c : Bool) → (c ≡ true → b ≡ false) → is_eq (cond b Less (cond c Equal Greater)) ≡ c
eq_by true true h = let e : true ≡ false = h refl in absurd (cc)
eq_by true false h = refl
eq_by false true h = refl
eq_by false false h = refl

-- equal numbers aren't less
not_less : (m n : ℕ) → (m == n) ≡ true → nat_lt m n ≡ false
not_less m n h = grind (arith, nat_tests)

-- a name is before another exactly where its number is smaller
pub before-number : (a b : List ℕ) → IsName a → IsName b → is_before a b ≡ nat_lt (name_number a) (name_number b)
before-number a b h g = ap is_lt (name-cmp a b h g) ∙ lt_by (nat_lt (name_number a) (name_number b)) (name_number a == name_number b)

-- names are the same exactly where their numbers are
pub same-number : (a b : List ℕ) → IsName a → IsName b → bytes_eq a b ≡ (name_number a == name_number b)
same-number a b h g =
    sym (is_eq-slice_cmp a b) ∙ (ap is_eq (name-cmp a b h g) ∙ eq_by (nat_lt (name_number a) (name_number b)) (name_number a == name_number b) (not_less (name_number a) (name_number b)))

-- each byte of a name is one
byte_at : (name : List ℕ) → IsName name → (i : ℕ) → get_or name i 0 < 256
byte_at name h i = elim (cases_lt i (length name)) [
  | inl within ↦ h.bytes i 0 within
  | inr past ↦ rw (get_or_past name i 0 past) (omega arith)
]

-- the bytes of a name's number are the name
pub name-bytes : (name : List ℕ) → IsName name → to_be_bytes w64 (name_number name) ≡ name
unfolding name_number
name-bytes name h = be_bytes_8 name (from_be_bytes w64 name) h.size (byte_at name h) refl

-- eight bytes are all bytes
eight_bytes : (a b c d e f g h : ℕ) → a < 256 → b < 256 → c < 256 → d < 256 → e < 256 → f < 256 → g < 256 → h < 256 → All IsByte (a ∷ b ∷ c ∷ d ∷ e ∷ f ∷ g ∷ h ∷ [])
eight_bytes a b c d e f g h a' b' c' d' e' f' g' h' =
    All-cons IsByte a (b ∷ c ∷ d ∷ e ∷ f ∷ g ∷ h ∷ []) a' (All-cons IsByte b (c ∷ d ∷ e ∷ f ∷ g ∷ h ∷ []) b' (All-cons IsByte c (d ∷ e ∷ f ∷ g ∷ h ∷ []) c' (All-cons IsByte d (e ∷ f ∷ g ∷ h ∷ []) d'
    (All-cons IsByte e (f ∷ g ∷ h ∷ []) e' (All-cons IsByte f (g ∷ h ∷ []) f' (All-cons IsByte g (h ∷ []) g' (All-cons IsByte h [] h' (All-nil IsByte))))))))

-- a remainder by 256 is a byte
below : (n : ℕ) → n % 256 < 256
below n = omega arith

-- the bytes of a number are a name
pub bytes-name : (n : ℕ) → IsName (to_be_bytes w64 n)
bytes-name n = record {
  size = refl;
  bytes = eight_bytes (n / 72057594037927936 % 256) (n / 281474976710656 % 256) (n / 1099511627776 % 256) (n / 4294967296 % 256) (n / 16777216 % 256) (n / 65536 % 256) (n / 256 % 256) (n % 256)
      (below _) (below _) (below _) (below _) (below _) (below _) (below _) (below n);
}

-- and its number is this one
pub bytes-number : (n : ℕ) → n < 2 ^ 64 → name_number (to_be_bytes w64 n) ≡ n
unfolding name_number
bytes-number n h = from_be_bytes-to_be_bytes_8 n h

-- the number of a name fits 64 bits
pub number-fits : (name : List ℕ) → IsName name → name_number name < 2 ^ 64
unfolding name_number
number-fits name h =
    omega (arith, byte_at name h 0, byte_at name h 1, byte_at name h 2, byte_at name h 3, byte_at name h 4, byte_at name h 5, byte_at name h 6, byte_at name h 7)

-- a smaller number is that of an earlier name
pub earlier : (a b : List ℕ) → IsName a → IsName b → IsTrue (is_before a b) ↔ (name_number a < name_number b)
earlier a b h g = (λ t. lower (rw (before-number a b h g) at t), λ l. rw (before-number a b h g) (low l))
  where
    lower : {m n : ℕ} → IsTrue (nat_lt m n) → m < n
    lower t = grind (arith, nat_tests)

    low : {m n : ℕ} → m < n → IsTrue (nat_lt m n)
    low l = grind (arith, nat_tests)

-- names of one number are one
pub one_name : (a b : List ℕ) → IsName a → IsName b → (a ≡ b) ↔ (name_number a ≡ name_number b)
one_name a b h g = (λ e. ap name_number e, λ e. sym (name-bytes a h) ∙ (ap (to_be_bytes w64) e ∙ name-bytes b g))
