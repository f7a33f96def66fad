-- Where the pixels of a rectangle stand in file order.
use Rattle.std.proofs.Common.{◌≡◌, ◌<◌, ◌≤◌, ℕ, zero, suc, ◌+◌, ◌-◌, ◌*◌, ◌/◌, ◌%◌, Bool, true, false, ◌&&◌, List, [], ◌∷◌, refl, arith, sym, ◌∙◌, ap}
use Rattle.std.specs.Prelude.{nat_le}
use Rattle.std.proofs.Math.Nat.{add-mul-mod_self_left, mod-eq_of_lt, mod-lt, add-mul-div_left, div-eq_of_lt, div-lt_iff_lt-mul, mul-le-mul_left, div-add-mod}
use Rattle.std.proofs.lemmas.Bool.Decides.{nat_tests}
use Rattle.std.specs.Prelude.{count_by}
use Rattle.std.specs.List.{range_with_len}
use Rattle.std.proofs.Common.{cond, inl, inr, min}
use Rattle.std.proofs.lemmas.List.Sums.{sum_by-cons}
use Rattle.std.proofs.lemmas.Bool.{cases_lt}
use Rattle.fits_plane.specs.Rectangle.{product, place, rectangle_size, IsRectangle, is_inside, rank}

-- which of the rectangle's pixels pixel i is
abbrev pub number : List ℕ → List ℕ → List ℕ → ℕ → ℕ
number (a ∷ axs) (l ∷ ls) (h ∷ hs) i = (i % a + 1 - l) + (h + 1 - l) * number axs ls hs (i / a)
number _ _ _ i = 0

-- the remainder of c + a * q
pub rem_at : (c a q : ℕ) → c < a → (c + a * q) % a ≡ c
rem_at c a q h = add-mul-mod_self_left c a q ∙ mod-eq_of_lt h

-- the quotient of c + a * q
pub quot_at : (c a q : ℕ) → c < a → (c + a * q) / a ≡ q
quot_at c a q h = add-mul-div_left c q (omega arith) ∙ ap (λ n. n + q) (div-eq_of_lt h) ∙ omega arith

-- a quotient is below its part of the product
quot_lt : (k n c : ℕ) → 0 < n → k < n * c → k / n < c
quot_lt k n c p h = (div-lt_iff_lt-mul p).1 (omega arith)

-- a pixel of the rectangle is one of the image
pub place-lt-product : (axs ls hs : List ℕ) (k : ℕ) → IsRectangle axs ls hs → k < rectangle_size ls hs → place axs ls hs k < product axs
place-lt-product [] [] [] k r h = omega arith
place-lt-product (a ∷ axs) (l ∷ ls) (h ∷ hs) k r b =
    let n : ℕ = h + 1 - l in
    let small : k % n < n = mod-lt k (omega (arith, r.0, r.1, r.2)) in
    let ih = place-lt-product axs ls hs (k / n) r.3 (quot_lt k n (rectangle_size ls hs) (omega (arith, r.0, r.1)) b) in
    let more = mul-le-mul_left a ih in
    omega (arith, r.0, r.1, r.2)
place-lt-product _ _ _ k r h = elim r [ ]

-- the pixel at a place is of the rectangle
pub inside_place : (axs ls hs : List ℕ) (k : ℕ) → IsRectangle axs ls hs → k < rectangle_size ls hs → is_inside axs ls hs (place axs ls hs k) ≡ true
inside_place [] [] [] k r h = refl
inside_place (a ∷ axs) (l ∷ ls) (h ∷ hs) k r b =
    let n : ℕ = h + 1 - l in
    let c : ℕ = l - 1 + k % n in
    let small : k % n < n = mod-lt k (omega (arith, r.0, r.1, r.2)) in
    let within : c < a = omega (arith, r.0, r.1, r.2) in
    let ih = inside_place axs ls hs (k / n) r.3 (quot_lt k n (rectangle_size ls hs) (omega (arith, r.0, r.1)) b) in
    rw (rem_at c a (place axs ls hs (k / n)) within, quot_at c a (place axs ls hs (k / n)) within, ih) (both_true l (l - 1 + k % n + 1) h (omega (arith, r.0)) (omega (arith, r.0, r.1)))
  where
    both_true : (l c h : ℕ) → l ≤ c → c ≤ h → (nat_le l c && (nat_le c h && true)) ≡ true
    both_true l c h p q = grind (arith, nat_tests)
inside_place _ _ _ k r h = elim r [ ]

-- the number of the pixel at the place of k is k
pub number-place : (axs ls hs : List ℕ) (k : ℕ) → IsRectangle axs ls hs → k < rectangle_size ls hs → number axs ls hs (place axs ls hs k) ≡ k
number-place [] [] [] k r h = omega arith
number-place (a ∷ axs) (l ∷ ls) (h ∷ hs) k r b =
    let n : ℕ = h + 1 - l in
    let c : ℕ = l - 1 + k % n in
    let small : k % n < n = mod-lt k (omega (arith, r.0, r.1, r.2)) in
    let within : c < a = omega (arith, r.0, r.1, r.2) in
    let ih = number-place axs ls hs (k / n) r.3 (quot_lt k n (rectangle_size ls hs) (omega (arith, r.0, r.1)) b) in
    rw (rem_at c a (place axs ls hs (k / n)) within, quot_at c a (place axs ls hs (k / n)) within, ih)
    (let e : l - 1 + k % n + 1 - l ≡ k % n = omega (arith, r.0) in ap (λ m. m + n * (k / n)) e ∙ omega (arith, div-add-mod k n))
number-place _ _ _ k r h = elim r [ ]

-- what the test of a coordinate says
record Between (l c h : ℕ) (rest : Bool) : Type 0 where
  low : l ≤ c
  high : c ≤ h
  others : rest ≡ true

-- what the test of a coordinate tells
between : (l c h : ℕ) (rest : Bool) → (nat_le l c && (nat_le c h && rest)) ≡ true → Between l c h rest
between l c h true e = record { low = grind (arith, nat_tests); high = grind (arith, nat_tests); others = refl }
between l c h false e = absurd (grind (arith, nat_tests))

-- the place of the number of a pixel is that pixel
pub place-number : (axs ls hs : List ℕ) (i : ℕ) → IsRectangle axs ls hs → i < product axs → is_inside axs ls hs i ≡ true → place axs ls hs (number axs ls hs i) ≡ i
place-number [] [] [] i r h e = omega arith
place-number (a ∷ axs) (l ∷ ls) (h ∷ hs) i r b e =
    let n : ℕ = h + 1 - l in
    let t = between l (i % a + 1) h (is_inside axs ls hs (i / a)) e in
    let c : ℕ = i % a + 1 - l in
    let within : c < n = omega (arith, t.low, t.high) in
    let ih = place-number axs ls hs (i / a) r.3 (quot_lt i a (product axs) (omega (arith, r.0, r.1, r.2)) b) t.others in
    rw (rem_at c n (number axs ls hs (i / a)) within, quot_at c n (number axs ls hs (i / a)) within, ih)
    (let same : l - 1 + (i % a + 1 - l) ≡ i % a = omega (arith, r.0, t.low) in ap (λ m. m + a * (i / a)) same ∙ omega (arith, div-add-mod i a))
place-number _ _ _ i r h e = elim r [ ]

-- a number is below the size
pub number-lt-size : (axs ls hs : List ℕ) (i : ℕ) → IsRectangle axs ls hs → i < product axs → is_inside axs ls hs i ≡ true → number axs ls hs i < rectangle_size ls hs
number-lt-size [] [] [] i r h e = omega arith
number-lt-size (a ∷ axs) (l ∷ ls) (h ∷ hs) i r b e =
    let n : ℕ = h + 1 - l in
    let t = between l (i % a + 1) h (is_inside axs ls hs (i / a)) e in
    let within : i % a + 1 - l < n = omega (arith, t.low, t.high) in
    let ih = number-lt-size axs ls hs (i / a) r.3 (quot_lt i a (product axs) (omega (arith, r.0, r.1, r.2)) b) t.others in
    let more = mul-le-mul_left n ih in
    omega (arith, within, more)
number-lt-size _ _ _ i r h e = elim r [ ]

-- how many of the rectangle's pixels stand before pixel i, by its row
abbrev before : List ℕ → List ℕ → List ℕ → ℕ → ℕ
before (a ∷ axs) (l ∷ ls) (h ∷ hs) i = (h + 1 - l) * before axs ls hs (i / a) + cond (is_inside axs ls hs (i / a)) (min (i % a + 1 - l) (h + 1 - l)) 0
before _ _ _ i = i

-- one step within a row, and one to the next row
in_row : (n l h c g : ℕ) (b : Bool) → 1 ≤ l → n ≡ h + 1 - l → n * g + cond b (min (c + 1 + 1 - l) n) 0 ≡ n * g + cond b (min (c + 1 - l) n) 0 + cond (nat_le l (c + 1) && (nat_le (c + 1) h && b)) 1 0
in_row n l h c g true p e = grind (arith, nat_tests)
in_row n l h c g false p e = grind (arith, nat_tests)

-- from the last of a row to the next
to_next : (n l h a c g : ℕ) (b b' : Bool) → 1 ≤ l → l ≤ h → h ≤ a → n ≡ h + 1 - l → c + 1 ≡ a → n * (g + cond b 1 0) + cond b' (min (0 + 1 - l) n) 0 ≡ n * g + cond b (min (c + 1 - l) n) 0 + cond (nat_le l (c + 1) && (nat_le (c + 1) h && b)) 1 0
to_next n l h a c g true true p q s e d = grind (arith, nat_tests)
to_next n l h a c g true false p q s e d = grind (arith, nat_tests)
to_next n l h a c g false true p q s e d = grind (arith, nat_tests)
to_next n l h a c g false false p q s e d = grind (arith, nat_tests)

-- one pixel more
before-more : (axs ls hs : List ℕ) (i : ℕ) → IsRectangle axs ls hs → before axs ls hs (i + 1) ≡ before axs ls hs i + cond (is_inside axs ls hs i) 1 0
before-more [] [] [] i r = refl
before-more (a ∷ axs) (l ∷ ls) (h ∷ hs) i r =
    let n : ℕ = h + 1 - l in
    let q : ℕ = i / a in
    let c : ℕ = i % a in
    let some : 0 < a = omega (arith, r.0, r.1, r.2) in
    let small : c < a = mod-lt i some in
    let whole : c + a * q ≡ i = omega (arith, div-add-mod i a) in
    elim (cases_lt (c + 1) a) [
      | inl w ↦
          let again : (c + 1) + a * q ≡ i + 1 = omega arith in
          let rem : (i + 1) % a ≡ c + 1 = ap (λ m. m % a) (sym again) ∙ rem_at (c + 1) a q w in
          let quot : (i + 1) / a ≡ q = ap (λ m. m / a) (sym again) ∙ quot_at (c + 1) a q w in
          rw (rem, quot) (in_row n l h c (before axs ls hs q) (is_inside axs ls hs q) r.0 refl)
      | inr w ↦
          let last : c + 1 ≡ a = omega arith in
          let again : 0 + a * (q + 1) ≡ i + 1 = omega arith in
          let rem : (i + 1) % a ≡ 0 = ap (λ m. m % a) (sym again) ∙ rem_at 0 a (q + 1) some in
          let quot : (i + 1) / a ≡ q + 1 = ap (λ m. m / a) (sym again) ∙ quot_at 0 a (q + 1) some in
          let ih = before-more axs ls hs q r.3 in
          rw (rem, quot, ih) (to_next n l h a c (before axs ls hs q) (is_inside axs ls hs q) (is_inside axs ls hs (q + 1)) r.0 r.1 r.2 refl last)
    ]
before-more _ _ _ i r = elim r [ ]

-- by a count over a run of pixels
before-range : (axs ls hs : List ℕ) (s n : ℕ) → IsRectangle axs ls hs → before axs ls hs (s + n) ≡ before axs ls hs s + count_by (is_inside axs ls hs) (range_with_len s n)
before-range axs ls hs s zero r = let e : s + 0 ≡ s = omega arith in ap (before axs ls hs) e ∙ omega arith
before-range axs ls hs s (suc n) r =
    let ih = before-range axs ls hs (s + 1) n r in
    let step = before-more axs ls hs s r in
    let cut = sum_by-cons (λ i. cond (is_inside axs ls hs i) 1 0) s (range_with_len (s + 1) n) in
    let e : s + suc n ≡ s + 1 + n = omega arith in
    ap (before axs ls hs) e ∙ ih ∙ omega (arith, step, cut)

-- nothing stands before the first coordinate
no_row : (l n : ℕ) (b : Bool) → 1 ≤ l → n * 0 + cond b (min (0 + 1 - l) n) 0 ≡ 0
no_row l n true h = grind arith
no_row l n false h = grind arith

-- none stand before the first pixel
before-none : (axs ls hs : List ℕ) → IsRectangle axs ls hs → before axs ls hs 0 ≡ 0
before-none [] [] [] r = refl
before-none (a ∷ axs) (l ∷ ls) (h ∷ hs) r =
    let some : 0 < a = omega (arith, r.0, r.1, r.2) in
    let rem : 0 % a ≡ 0 = mod-eq_of_lt some in
    let quot : 0 / a ≡ 0 = div-eq_of_lt some in
    rw (rem, quot, before-none axs ls hs r.3) (no_row l (h + 1 - l) (is_inside axs ls hs 0) r.0)
before-none _ _ _ r = elim r [ ]

-- before a pixel of the rectangle stand as many as its number
before-number : (axs ls hs : List ℕ) (i : ℕ) → IsRectangle axs ls hs → i < product axs → is_inside axs ls hs i ≡ true → before axs ls hs i ≡ number axs ls hs i
before-number [] [] [] i r b e = omega arith
before-number (a ∷ axs) (l ∷ ls) (h ∷ hs) i r b e =
    let n : ℕ = h + 1 - l in
    let t = between l (i % a + 1) h (is_inside axs ls hs (i / a)) e in
    let ih = before-number axs ls hs (i / a) r.3 (quot_lt i a (product axs) (omega (arith, r.0, r.1, r.2)) b) t.others in
    rw (ih, t.others) (let m : min (i % a + 1 - l) n ≡ i % a + 1 - l = omega (arith, t.low, t.high) in omega arith)
before-number _ _ _ i r b e = elim r [ ]

-- the number of a pixel in the rectangle is its rank
pub rank-number : (axs ls hs : List ℕ) (i : ℕ) → IsRectangle axs ls hs → i < product axs → is_inside axs ls hs i ≡ true → rank axs ls hs i ≡ number axs ls hs i
rank-number axs ls hs i r b e =
    let all = before-range axs ls hs 0 i r in
    let start = before-none axs ls hs r in
    omega (arith, all, start, before-number axs ls hs i r b e, ap (before axs ls hs) (let z : 0 + i ≡ i = omega arith in z))

-- pixel x of row r of the rectangle
pub place-in_row : (a l h : ℕ) (axs ls hs : List ℕ) (r x : ℕ) → x < h + 1 - l → place (a ∷ axs) (l ∷ ls) (h ∷ hs) (r * (h + 1 - l) + x) ≡ (l - 1) + a * place axs ls hs r + x
place-in_row a l h axs ls hs r x b =
    let n : ℕ = h + 1 - l in
    let turn : r * n + x ≡ x + n * r = omega arith in
    rw (turn, rem_at x n r b, quot_at x n r b) (omega arith)

-- one for a pixel of the rectangle
abbrev pub one_if : Bool → ℕ
one_if b = cond b 1 0

-- later pixels have no fewer before them
before-grows : (axs ls hs : List ℕ) (i n : ℕ) → IsRectangle axs ls hs → before axs ls hs i ≤ before axs ls hs (i + n)
before-grows axs ls hs i n r = let all = before-range axs ls hs i n r in omega (arith, all)

-- of two pixels of the rectangle the later has the greater number
pub number_grows : (axs ls hs : List ℕ) (i j : ℕ) → IsRectangle axs ls hs → i < j → j < product axs → is_inside axs ls hs i ≡ true → is_inside axs ls hs j ≡ true → number axs ls hs i < number axs ls hs j
number_grows axs ls hs i j r b w p q =
    let more = before-more axs ls hs i r in
    let here : one_if (is_inside axs ls hs i) ≡ one_if true = ap one_if p in
    let up = before-grows axs ls hs (i + 1) (j - (i + 1)) r in
    let e : i + 1 + (j - (i + 1)) ≡ j = omega arith in
    let last : before axs ls hs (i + 1 + (j - (i + 1))) ≡ before axs ls hs j = ap (before axs ls hs) e in
    omega (arith, more, here, up, last, before-number axs ls hs i r (omega arith) p, before-number axs ls hs j r w q)

-- nor before the first coordinate of a row
no_more : (l n g : ℕ) (b : Bool) → 1 ≤ l → n * g + cond b (min (0 + 1 - l) n) 0 ≡ n * g
no_more l n g true h = grind arith
no_more l n g false h = grind arith

-- before the end of the image stand all
before-all : (axs ls hs : List ℕ) → IsRectangle axs ls hs → before axs ls hs (product axs) ≡ rectangle_size ls hs
before-all [] [] [] r = refl
before-all (a ∷ axs) (l ∷ ls) (h ∷ hs) r =
    let some : 0 < a = omega (arith, r.0, r.1, r.2) in
    let turn : a * product axs ≡ 0 + a * product axs = omega arith in
    let rem : a * product axs % a ≡ 0 = ap (λ m. m % a) turn ∙ rem_at 0 a (product axs) some in
    let quot : a * product axs / a ≡ product axs = ap (λ m. m / a) turn ∙ quot_at 0 a (product axs) some in
    rw (rem, quot, before-all axs ls hs r.3) (no_more l (h + 1 - l) (rectangle_size ls hs) (is_inside axs ls hs (product axs)) r.0)
before-all _ _ _ r = elim r [ ]

-- the rank of the end is the size
pub rank-all : (axs ls hs : List ℕ) → IsRectangle axs ls hs → rank axs ls hs (product axs) ≡ rectangle_size ls hs
rank-all axs ls hs r =
    let all = before-range axs ls hs 0 (product axs) r in
    let start = before-none axs ls hs r in
    omega (arith, all, start, before-all axs ls hs r, ap (before axs ls hs) (let z : 0 + product axs ≡ product axs = omega arith in z))
