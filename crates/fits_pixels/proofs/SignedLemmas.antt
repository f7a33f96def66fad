-- Pixels that have a sign: what a pass finds of them, with their sum, is their statistics.
use Rattle.std.proofs.Common.{◌≡◌, ◌≤◌, ◌<◌, ◌+◌, ◌*◌, ◌/◌, ◌^◌, ◌==◌, ℕ, zero, suc, Bool, true, false, cond, inl, inr, List, [], ◌∷◌, length, slice_index, refl, arith, sym, ◌∙◌, ap, Option, Some, None, Ordering, Less, Equal, Greater, not}
use Rattle.std.specs.Prelude.{filter, int_lt, ℤ, pos, negsuc, ◌+ℤ◌, ◌-ℤ◌, ◌*ℤ◌, ◌≤ℤ◌}
use Rattle.std.specs.Int.{int_max, int_min}
use Rattle.std.specs.Ordering.{is_eq, is_lt, is_some_and, int_cmp, ord_max, ord_min, partial_lt}
use Rattle.std.proofs.lemmas.Int.{ints, clamps}
use Rattle.std.proofs.lemmas.Bool.Decides.{nat_tests}
use Rattle.byteorder.specs.Endian.{big_from}
use Rattle.byteorder.specs.Numbers.{big_from-lt}
use Rattle.fits_pixels.specs.declared.extremes.Extremes.{Extremes}
use Rattle.fits_pixels.specs.SummaryLaws.{same_pixels}
use Rattle.fits_pixels.specs.Statistics.{is_blank, defined_numbers, sum_of, statistics}
use Rattle.fits_pixels.specs.Pixels.{pixels, stored_number, IsSigned, IsStorable, can_store, least_stored, greatest_stored}
use Rattle.fits_pixels.specs.Scan.{AreExtremes, found_summary, negative_count, storable_blank, unsigned_total}
use Rattle.fits_pixels.proofs.ApartLemmas.{Ranged, all_defined, blanks_off}
use Rattle.fits_pixels.proofs.ScanLemmas.{AllBetween, blank_outside, counts, defined_between, greatest_found, least_found}
use Rattle.fits_pixels.proofs.TestLemmas.{can_store_decides}

-- ---- by width

-- what holds at each width
pub by_sign : (P : ℕ → Type 0) → P 2 → P 4 → P 8 → (w : ℕ) → IsSigned w → P w
by_sign P two four eight w (inl e) = rw e two
by_sign P two four eight w (inr (inl e)) = rw e four
by_sign P two four eight w (inr (inr e)) = rw e eight

-- a pixel of those held lies in the block
pub pixel_within : (w i held n : ℕ) → IsSigned w → i < held → held * w ≤ n → (i + 1) * w ≤ n
pixel_within w i held n s b = by_sign (λ w. held * w ≤ n → (i + 1) * w ≤ n) (λ h. omega (arith, b, h)) (λ h. omega (arith, b, h)) (λ h. omega (arith, b, h)) w s

-- a block holds few of them
pub few_held : (w held n : ℕ) → IsSigned w → held * w ≤ n → n ≤ 2880 → held ≤ 1440
few_held w held n s h m = by_sign (λ w. held * w ≤ n → held ≤ 1440) (λ h. omega (arith, h, m)) (λ h. omega (arith, h, m)) (λ h. omega (arith, h, m)) w s h

-- a full block holds all that it has room for
pub all_held : (w held n : ℕ) → IsSigned w → held * w ≡ n → n / w ≡ held
all_held w held n s = by_sign (λ w. held * w ≡ n → n / w ≡ held) (λ h. omega (arith, h)) (λ h. omega (arith, h)) (λ h. omega (arith, h)) w s

-- the range of a pixel, by its bits
between : (w u : ℕ) → IsSigned w → u < 256 ^ w → (least_stored w ≤ℤ stored_number w u) × (stored_number w u ≤ℤ greatest_stored w)
between w u s =
    by_sign (λ w. u < 256 ^ w → (least_stored w ≤ℤ stored_number w u) × (stored_number w u ≤ℤ greatest_stored w))
    (λ h. (grind (arith, ints, nat_tests), grind (arith, ints, nat_tests)))
    (λ h. (grind (arith, ints, nat_tests), grind (arith, ints, nat_tests)))
    (λ h. (grind (arith, ints, nat_tests), grind (arith, ints, nat_tests))) w s

-- they lie in their range
pub range_signed : (w : ℕ) → IsSigned w → (xs : List ℕ) (a n : ℕ) → ((k : ℕ) → slice_index xs k < 256) → AllBetween (least_stored w) (greatest_stored w) (pixels w xs a n)
range_signed w s xs a zero h = tt
range_signed w s xs a (suc n) h = let b = between w (big_from (a * w) w xs) s (big_from-lt (a * w) w xs h) in (b.0, b.1, range_signed w s xs (a + 1) n h)

-- a pixel's sign counts once
sign_counts : (w u : ℕ) → IsSigned w → u < 256 ^ w → pos u ≡ stored_number w u +ℤ pos (256 ^ w * cond (int_lt (stored_number w u) (pos 0)) 1 0)
sign_counts w u s =
    by_sign (λ w. u < 256 ^ w → pos u ≡ stored_number w u +ℤ pos (256 ^ w * cond (int_lt (stored_number w u) (pos 0)) 1 0))
    (λ h. grind (arith, ints, nat_tests)) (λ h. grind (arith, ints, nat_tests)) (λ h. grind (arith, ints, nat_tests)) w s

-- a total with one pixel more
one_total : (m u t a b : ℕ) (x y : ℤ) → pos u ≡ x +ℤ pos (m * a) → pos t ≡ y +ℤ pos (m * b) → pos (u + t) ≡ x +ℤ y +ℤ pos (m * (a + b))
one_total m u t a b x y p q = omega (arith, ints, p, q)

-- their total without signs
pub total_signed : (w : ℕ) → IsSigned w → (xs : List ℕ) (i n : ℕ) → ((k : ℕ) → slice_index xs k < 256)
    → pos (unsigned_total w xs i n) ≡ sum_of (pixels w xs i n) +ℤ pos (256 ^ w * negative_count (pixels w xs i n))
total_signed w s xs i zero h = omega (arith, ints)
total_signed w s xs i (suc n) h =
    one_total (256 ^ w) _ _ _ _ _ _ (sign_counts w (big_from (i * w) w xs) s (big_from-lt (i * w) w xs h)) (total_signed w s xs (i + 1) n h)

-- no more are negative than there are
pub few_negatives : (xs : List ℤ) → negative_count xs ≤ length xs
few_negatives [] = omega arith
few_negatives (x ∷ xs) = one_more (int_lt x (pos 0)) (few_negatives xs)
  where
    one_more : {m n : ℕ} (t : Bool) → m ≤ n → cond t 1 0 + m ≤ suc n
    one_more true h = omega (arith, h)
    one_more false h = omega (arith, h)

-- the nearest number that a pixel can store
abbrev pub nearest : ℕ → ℤ → ℤ
nearest w z = int_max (least_stored w) (int_min z (greatest_stored w))

-- to one that it can store
pub nearest_stored : (w : ℕ) (z : ℤ) → IsStorable w z → int_max (least_stored w) (int_min z (greatest_stored w)) ≡ z
nearest_stored w z s = omega (arith, ints, clamps, s.least, s.greatest)

-- a count of them is one that they can store
pub nearest_count : (w n : ℕ) → IsSigned w → n ≤ 1440 → int_max (least_stored w) (int_min (pos n) (greatest_stored w)) ≡ pos n
nearest_count w n s h = by_sign (λ w. int_max (least_stored w) (int_min (pos n) (greatest_stored w)) ≡ pos n) (omega (arith, ints, clamps, h)) (omega (arith, ints, clamps, h)) (omega (arith, ints, clamps, h)) w s

-- the nearest to the greatest of 64 bits
pub nearest_top : (w : ℕ) → IsSigned w → int_max (least_stored w) (int_min (pos 9223372036854775807) (greatest_stored w)) ≡ greatest_stored w
nearest_top w s = by_sign (λ w. int_max (least_stored w) (int_min (pos 9223372036854775807) (greatest_stored w)) ≡ greatest_stored w) (omega (arith, ints, clamps)) (omega (arith, ints, clamps)) (omega (arith, ints, clamps)) w s

-- and to the least
pub nearest_bottom : (w : ℕ) → IsSigned w → int_max (least_stored w) (int_min (negsuc 9223372036854775807) (greatest_stored w)) ≡ least_stored w
nearest_bottom w s = by_sign (λ w. int_max (least_stored w) (int_min (negsuc 9223372036854775807) (greatest_stored w)) ≡ least_stored w) (omega (arith, ints, clamps)) (omega (arith, ints, clamps)) (omega (arith, ints, clamps)) w s

-- ---- a type that is ordered by its numbers

-- how the numbers compare
less_case : (t u : Bool) → is_lt (cond t Less (cond u Greater Equal)) ≡ t
less_case true u = refl
less_case false true = refl
less_case false false = refl

-- the lesser of two, by a test
min_case : {S : Type 0} (number : S → ℤ) (t : Bool) (a b : S) → t ≡ int_lt (number b) (number a) → number (cond t b a) ≡ int_min (number a) (number b)
min_case number true a b e = grind (arith, ints, clamps, e)
min_case number false a b e = grind (arith, ints, clamps, e)

-- the greater
max_case : {S : Type 0} (number : S → ℤ) (t : Bool) (a b : S) → t ≡ int_lt (number b) (number a) → number (cond t a b) ≡ int_max (number a) (number b)
max_case number true a b e = grind (arith, ints, clamps, e)
max_case number false a b e = grind (arith, ints, clamps, e)

-- numbers that compare as equal are the same
same_numbers : (x y : ℤ) → is_eq (int_cmp x y) ≡ true → x ≡ y
same_numbers x y e = grind (arith, ints, e)

-- and the other way round
numbers_same : (x y : ℤ) → x ≡ y → is_eq (int_cmp x y) ≡ true
numbers_same x y e = grind (arith, ints, e)

-- what the comparisons of such a type say of its numbers
pub record Ordered {S : Type 0} (number : S → ℤ) (eq : S → S → Bool) (partial_cmp : S → S → Option Ordering) (cmp : S → S → Ordering) : Type 0 where
  pub least : (a b r : S) → r ≡ ord_min cmp a b → number r ≡ int_min (number a) (number b)
  pub greatest : (a b r : S) → r ≡ ord_max cmp a b → number r ≡ int_max (number a) (number b)
  pub less : (a b : S) → partial_lt partial_cmp a b ≡ int_lt (number a) (number b)
  pub same : (a b : S) → eq a b ≡ true → number a ≡ number b
  pub equal : (a b : S) → number a ≡ number b → eq a b ≡ true

-- they do
pub ordered : {S : Type 0} (number : S → ℤ) (eq : S → S → Bool) (partial_cmp : S → S → Option Ordering) (cmp : S → S → Ordering)
    → ((a b : S) → cmp a b ≡ int_cmp (number a) (number b)) → ((a b : S) → partial_cmp a b ≡ Some (cmp a b)) → ((a b : S) → eq a b ≡ is_eq (cmp a b)) → Ordered number eq partial_cmp cmp
ordered {S} number eq partial_cmp cmp order partial same =
    let test : (a b : S) → is_lt (cmp a b) ≡ int_lt (number a) (number b) = λ a b. ap is_lt (order a b) ∙ less_case (int_lt (number a) (number b)) (int_lt (number b) (number a)) in
    record {
      least = λ a b r e. ap number e ∙ min_case number (is_lt (cmp b a)) a b (test b a);
      greatest = λ a b r e. ap number e ∙ max_case number (is_lt (cmp b a)) a b (test b a);
      less = λ a b. ap (is_some_and is_lt) (partial a b) ∙ test a b;
      same = λ a b e. same_numbers (number a) (number b) (sym (same a b ∙ ap is_eq (order a b)) ∙ e);
      equal = λ a b e. same a b ∙ ap is_eq (order a b) ∙ numbers_same (number a) (number b) e;
    }

-- a test of two that are not the same
pub not_same : (t : Bool) → not t ≡ false → t ≡ true
not_same true e = refl
not_same false e = absurd (cc e)

-- ---- BLANK

-- by a test of it
stored_case : (t : Bool) (b : ℤ) (all : List ℤ) → (t ≡ false → statistics (Some b) all ≡ statistics None all) → statistics (cond t (Some b) None) all ≡ statistics (Some b) all
stored_case true b all h = refl
stored_case false b all h = sym (h refl)

-- a BLANK that the pixels can't store marks none
pub blank_stored : (w : ℕ) → IsSigned w → (blank : Option ℤ) (xs : List ℕ) (a n : ℕ) → ((k : ℕ) → slice_index xs k < 256) → statistics (storable_blank w blank) (pixels w xs a n) ≡ statistics blank (pixels w xs a n)
blank_stored w s None xs a n h = refl
blank_stored w s (Some b) xs a n h = stored_case (can_store w b) b (pixels w xs a n) (λ no.
    blank_outside b (least_stored w) (greatest_stored w) (pixels w xs a n) (range_signed w s xs a n h) (λ p q.
    let is = (can_store_decides w b).1 (record { least = p; greatest = q }) in
    absurd (let z = sym no ∙ is in (cc z))))

-- ---- what a pass finds

-- at its end it has found it
pub extremes_found : (b b' : Option ℤ) (top bottom low high : ℤ) (blanks : ℕ) (all : List ℤ) (e : Extremes) → Ranged b top bottom low high blanks [] all → AllBetween bottom top all
    → b' ≡ b → e.least ≡ low → e.greatest ≡ high → e.negatives ≡ negative_count all → e.blanks ≡ blanks → AreExtremes b' all e
extremes_found b b' top bottom low high blanks all e s range same p q t u = rw same (
    let ds = defined_numbers b all in
    let in_range = defined_between b bottom top all range in
    record {
      least = ap (λ z. cond (length ds == 0) None (Some z)) (p ∙ s.scanned.least) ∙ least_found bottom top ds in_range;
      greatest = ap (λ z. cond (length ds == 0) None (Some z)) (q ∙ s.scanned.greatest) ∙ greatest_found bottom top ds in_range;
      negatives = t;
      blanks = omega (arith, s.scanned.counted, u);
    })

-- with the counts and the sum it is the statistics
found_is : (b : Option ℤ) (defined blanks : ℕ) (sum : ℤ) (all : List ℤ) (e : Extremes) → AreExtremes b all e → defined ≡ length (defined_numbers b all) → blanks ≡ length (filter (is_blank b) all)
    → sum ≡ sum_of (defined_numbers b all) → found_summary defined blanks e.least e.greatest sum ≡ statistics b all
found_is b defined blanks sum all e x d n s =
    same_pixels _ _ _ _ _ _ _ _ _ _ d n (ap (λ k. cond (k == 0) None (Some e.least)) d ∙ x.least) (ap (λ k. cond (k == 0) None (Some e.greatest)) d ∙ x.greatest) s

-- where none is blank
pub found_defined : (held : ℕ) (low high sum : ℤ) (all : List ℤ) (e : Extremes) → AreExtremes None all e → length all ≡ held → low ≡ e.least → high ≡ e.greatest → sum ≡ sum_of all
    → found_summary held 0 low high sum ≡ statistics None all
found_defined held low high sum all e x n p q s =
    let whole = ap length (all_defined all) in
    rw (p, q) (found_is None held 0 sum all e x (omega (arith, n, whole)) (omega (arith, counts None all, whole)) (s ∙ ap sum_of (sym (all_defined all))))

-- where one number is, whose sum is taken off
pub found_blank : (b : ℤ) (defined : ℕ) (low high total : ℤ) (all : List ℤ) (e : Extremes) → AreExtremes (Some b) all e → defined + e.blanks ≡ length all → low ≡ e.least → high ≡ e.greatest → total ≡ sum_of all
    → found_summary defined e.blanks low high (total +ℤ pos e.blanks *ℤ (pos 0 -ℤ b)) ≡ statistics (Some b) all
found_blank b defined low high total all e x n p q t =
    rw (p, q) (found_is (Some b) defined e.blanks _ all e x (omega (arith, n, x.blanks, counts (Some b) all)) x.blanks
    (ap (λ z. z +ℤ pos e.blanks *ℤ (pos 0 -ℤ b)) t ∙ ap (λ k. sum_of all +ℤ pos k *ℤ (pos 0 -ℤ b)) x.blanks ∙ blanks_off b all))
