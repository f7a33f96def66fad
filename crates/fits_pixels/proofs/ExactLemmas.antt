-- Few numbers are joined without a wrap.
use Rattle.std.proofs.Common.{◌≡◌, ◌<◌, ◌≤◌, ℕ, suc, ◌+◌, ◌*◌, ◌%◌, ◌^◌, Bool, true, false, cond, List, [], ◌∷◌, length, refl, arith, ◌∙◌, ap, Some, None, Option}
use Rattle.std.specs.Prelude.{ℤ, pos, ◌+ℤ◌, unsigned_abs, filter, FitsSigned, not}
use Rattle.std.specs.Int.{w64, w128, int_wrap}
use Rattle.std.proofs.lemmas.Int.{ints, int_wrap_fits, fits_signed_from_abs}
use Rattle.std.proofs.Math.Nat.{mod-eq_of_lt}
use Rattle.std.proofs.lemmas.List.Sums.{length-filter, count_by-le-length}
use Rattle.fits_pixels.specs.Summary.{pixels_joined, added, sum_added}
use Rattle.fits_pixels.specs.SummaryLaws.{same_pixels}
use Rattle.fits_pixels.specs.Statistics.{is_blank, defined_numbers, sum_of, least_of, greatest_of, AllFit64, JoinedIsExact}

-- a signed number of 64 bits has at most 2^63
small : (x : ℤ) → FitsSigned w64 x → unsigned_abs x ≤ 2 ^ 63
small x h = omega (arith, ints)

-- a sum is no larger than both parts
pub abs_add : (a b : ℤ) → unsigned_abs (a +ℤ b) ≤ unsigned_abs a + unsigned_abs b
abs_add a b = omega (arith, ints)

-- the sum with one number more, or without it where it is blank
sum_case : (b : Bool) (x : ℤ) (ds : List ℤ) (n : ℕ) → unsigned_abs x ≤ 2 ^ 63 → unsigned_abs (sum_of ds) ≤ 2 ^ 63 * n → unsigned_abs (sum_of (cond (not b) (x ∷ ds) ds)) ≤ 2 ^ 63 * suc n
sum_case true x ds n p h = omega (arith, h)
sum_case false x ds n p h = omega (arith, h, p, abs_add x (sum_of ds))

-- the sum of n numbers has at most n times 2^63
pub sum_bound : (blank : Option ℤ) (xs : List ℤ) → AllFit64 xs → unsigned_abs (sum_of (defined_numbers blank xs)) ≤ 2 ^ 63 * length xs
sum_bound blank [] f = omega arith
sum_bound blank (x ∷ xs) f = sum_case (is_blank blank x) x (defined_numbers blank xs) (length xs) (small x f.0) (sum_bound blank xs f.1)

-- a count grows by one without a carry
counted : (n : ℕ) → n + 1 < 2 ^ 64 → added 1 n ≡ suc n
counted n h = let e : 1 + n ≡ suc n = omega arith in ap (λ m. m % 2 ^ 64) e ∙ mod-eq_of_lt (omega arith)

-- a count stays without a carry
same_count : (n : ℕ) → n < 2 ^ 64 → added 0 n ≡ n
same_count n h = let e : 0 + n ≡ n = omega arith in ap (λ m. m % 2 ^ 64) e ∙ mod-eq_of_lt h

-- a sum of few numbers fits 128 bits
fits_sum : (z : ℤ) → unsigned_abs z ≤ 2 ^ 126 → FitsSigned w128 z
fits_sum z h = fits_signed_from_abs w128 z (omega arith)

-- a sum stays without a carry
same_sum : (z : ℤ) → unsigned_abs z ≤ 2 ^ 126 → sum_added (pos 0) z ≡ z
same_sum z h = let e : pos 0 +ℤ z ≡ z = omega (arith, ints) in ap (int_wrap w128) e ∙ int_wrap_fits w128 z (fits_sum z h)

-- a number more
one_more : (b : Bool) (x : ℤ) (ds bs : List ℤ) → length ds < 2 ^ 62 → length bs < 2 ^ 62 → unsigned_abs (sum_of ds) ≤ 2 ^ 125 → unsigned_abs (x +ℤ sum_of ds) ≤ 2 ^ 126
    → pixels_joined (cond b (record { defined = 0; blank = 1; least = None; greatest = None; sum = pos 0 }) (record { defined = 1; blank = 0; least = Some x; greatest = Some x; sum = x }))
    (record { defined = length ds; blank = length bs; least = least_of ds; greatest = greatest_of ds; sum = sum_of ds })
    ≡ record { defined = length (cond (not b) (x ∷ ds) ds); blank = length (cond b (x ∷ bs) bs); least = least_of (cond (not b) (x ∷ ds) ds); greatest = greatest_of (cond (not b) (x ∷ ds) ds); sum = sum_of (cond (not b) (x ∷ ds) ds) }
one_more true x ds bs d e s t = same_pixels _ _ _ _ _ _ _ _ _ _ (same_count (length ds) (omega arith)) (counted (length bs) (omega arith)) refl refl (same_sum (sum_of ds) (omega arith))
one_more false x ds bs d e s t = same_pixels _ _ _ _ _ _ _ _ _ _ (counted (length ds) (omega arith)) (same_count (length bs) (omega arith)) refl refl (int_wrap_fits w128 (x +ℤ sum_of ds) (fits_sum _ t))

-- a filter leaves no more than there was
pub short : {X : Type 0} (p : X → Bool) (xs : List X) → length (filter p xs) ≤ length xs
short p xs = omega (arith, length-filter p xs, count_by-le-length p xs)

-- number by number nothing is lost
pub joined_is_exact : JoinedIsExact
joined_is_exact blank [] f few = refl
joined_is_exact blank (x ∷ xs) f few =
    let ih = joined_is_exact blank xs f.1 (omega arith) in
    let bound = sum_bound blank xs f.1 in
    let ds : List ℤ = defined_numbers blank xs in
    let bs : List ℤ = filter (is_blank blank) xs in
    let least_bound : unsigned_abs (sum_of ds) ≤ 2 ^ 125 = omega (arith, bound) in
    rw ih (one_more (is_blank blank x) x ds bs (omega (arith, short (λ y. not (is_blank blank y)) xs)) (omega (arith, short (is_blank blank) xs)) least_bound (omega (arith, least_bound, small x f.0, abs_add x (sum_of ds))))
