-- A scan that adds up all numbers apart, and takes the blank ones off at the end.
use Rattle.std.proofs.Common.{◌<◌, ◌≤◌, zero, inl, inr, ◌≡◌, ◌≢◌, ◌+◌, ℕ, suc, Bool, true, false, cond, not, List, [], ◌∷◌, length, refl, arith, ◌∙◌, ap, Option, Some, None}
use Rattle.std.specs.Prelude.{int_lt, ◌≤ℤ◌, filter, ℤ, pos, ◌+ℤ◌, ◌-ℤ◌, ◌*ℤ◌}
use Rattle.std.specs.Int.{int_min, int_max}
use Rattle.std.proofs.lemmas.Int.{ints, clamps}
use Rattle.std.proofs.lemmas.Bool.{cases_eq}
use Rattle.fits_pixels.specs.Statistics.{is_blank, defined_numbers, sum_of}
use Rattle.fits_pixels.specs.Pixels.{pixel, pixels}
use Rattle.fits_pixels.specs.Scan.{negative_count}
use Rattle.fits_pixels.proofs.ScanLemmas.{Scanned, scanned_skip, scanned_use, scanned_turn, pixels-step}
use Rattle.fits_pixels.proofs.ValueLemmas.{times_more, times_none}

-- what a scan without a sum has found so far: with some sum it has scanned
pub record Ranged (b : Option ℤ) (top bottom low high : ℤ) (blanks : ℕ) (rest all : List ℤ) : Type 0 where
  pub sum : ℤ
  pub scanned : Scanned b top bottom low high sum blanks rest all

-- before the first number
pub ranged_none : (b : Option ℤ) (top bottom low high : ℤ) (blanks : ℕ) (rest all : List ℤ) → low ≡ top → high ≡ bottom → blanks ≡ 0 → rest ≡ all → Ranged b top bottom low high blanks rest all
ranged_none b top bottom low high blanks rest all e f g h = rw (e, f, g, h) (record {
  sum = pos 0;
  scanned = record { least = refl; greatest = refl; total = omega (arith, ints); counted = omega arith };
})

-- a turn that finds a blank number
pub ranged_skip : {b x : ℤ} {top bottom low high low' high' : ℤ} {blanks blanks' : ℕ} (w i n j m : ℕ) (xs : List ℕ) {all : List ℤ} → n ≡ suc m → j ≡ i + 1 → x ≡ pixel w xs i → x ≡ b
    → Ranged (Some b) top bottom low high blanks (pixels w xs i n) all → low' ≡ low → high' ≡ high → blanks' ≡ blanks + 1
    → Ranged (Some b) top bottom low' high' blanks' (pixels w xs j m) all
ranged_skip w i n j m xs e f here same s p q t = record { sum = s.sum; scanned = scanned_skip w i n j m xs e f here same s.scanned p q refl t }

-- a turn that finds a defined number
pub ranged_use : {b x : ℤ} {top bottom low high low' high' : ℤ} {blanks blanks' : ℕ} (w i n j m : ℕ) (xs : List ℕ) {all : List ℤ} → n ≡ suc m → j ≡ i + 1 → x ≡ pixel w xs i → x ≢ b
    → Ranged (Some b) top bottom low high blanks (pixels w xs i n) all → low' ≡ int_min low x → high' ≡ int_max high x → blanks' ≡ blanks
    → Ranged (Some b) top bottom low' high' blanks' (pixels w xs j m) all
ranged_use {x = x} w i n j m xs e f here other s p q t = record { sum = s.sum +ℤ x; scanned = scanned_use w i n j m xs e f here other s.scanned p q refl t }

-- a turn where none is blank
pub ranged_turn : {top bottom low high low' high' : ℤ} {blanks : ℕ} (w i n j m : ℕ) (xs : List ℕ) {all : List ℤ} → n ≡ suc m → j ≡ i + 1
    → Ranged None top bottom low high blanks (pixels w xs i n) all → low' ≡ int_min low (pixel w xs i) → high' ≡ int_max high (pixel w xs i)
    → Ranged None top bottom low' high' blanks (pixels w xs j m) all
ranged_turn w i n j m xs e f s p q = record { sum = s.sum +ℤ pixel w xs i; scanned = scanned_turn w i n j m xs e f refl s.scanned p q refl }

-- a turn of a sum
pub sum_turn : (w i n j m : ℕ) (xs : List ℕ) (sum sum' all : ℤ) → n ≡ suc m → j ≡ i + 1 → sum +ℤ sum_of (pixels w xs i n) ≡ all → sum' ≡ sum +ℤ pixel w xs i → sum' +ℤ sum_of (pixels w xs j m) ≡ all
sum_turn w i n j m xs sum sum' all e f s p =
    let s' = rw (pixels-step w xs i n j m e f) at s in
    omega (arith, ints, s', p)

-- a number that is blank is BLANK's
is_blank_is : (b x : ℤ) → is_blank (Some b) x ≡ true → x ≡ b
is_blank_is b x e = grind (arith, ints)

-- one number more
off_case : (t : Bool) (b x s : ℤ) (bs ds : List ℤ) → (t ≡ true → x ≡ b) → s +ℤ pos (length bs) *ℤ (pos 0 -ℤ b) ≡ sum_of ds
    → x +ℤ s +ℤ pos (length (cond t (x ∷ bs) bs)) *ℤ (pos 0 -ℤ b) ≡ sum_of (cond (not t) (x ∷ ds) ds)
off_case true b x s bs ds same ih = omega (arith, ints, same refl, times_more (length bs) (pos 0 -ℤ b), ih)
off_case false b x s bs ds same ih = omega (arith, ints, ih)

-- the sum of all numbers, the blank ones taken off
pub blanks_off : (b : ℤ) (xs : List ℤ) → sum_of xs +ℤ pos (length (filter (is_blank (Some b)) xs)) *ℤ (pos 0 -ℤ b) ≡ sum_of (defined_numbers (Some b) xs)
blanks_off b [] = omega (arith, ints, times_none (pos 0 -ℤ b))
blanks_off b (x ∷ xs) = off_case (is_blank (Some b) x) b x (sum_of xs) (filter (is_blank (Some b)) xs) (defined_numbers (Some b) xs) (is_blank_is b x) (blanks_off b xs)

-- where none is blank, all are defined
pub all_defined : (xs : List ℤ) → defined_numbers None xs ≡ xs
all_defined [] = refl
all_defined (x ∷ xs) = ap (λ l. x ∷ l) (all_defined xs)

-- ---- pixels that are blank before the first that is not

-- what is found of them
pub ranged_lead : (w : ℕ) (b top bottom : ℤ) (xs : List ℕ) (f m n : ℕ) → ((k : ℕ) → k < f → pixel w xs k ≡ b) → f + m ≡ n
    → Ranged (Some b) top bottom top bottom f (pixels w xs f m) (pixels w xs 0 n)
ranged_lead w b top bottom xs zero m n h e = ranged_none (Some b) top bottom top bottom 0 _ _ refl refl refl (ap (pixels w xs 0) (let z : m ≡ n = omega (arith, e) in z))
ranged_lead w b top bottom xs (suc f) m n h e =
    ranged_skip w f (suc m) (suc f) m xs refl (omega arith) refl (h f (omega arith)) (ranged_lead w b top bottom xs f (suc m) n (λ k l. h k (omega (arith, l))) (omega (arith, e))) refl refl (omega arith)

-- one more of them
pub lead_more : (w i : ℕ) (b : ℤ) (xs : List ℕ) → ((k : ℕ) → k < i → pixel w xs k ≡ b) → pixel w xs i ≡ b → (k : ℕ) → k < i + 1 → pixel w xs k ≡ b
lead_more w i b xs h e k l = elim (cases_eq k i) [
  | inl same ↦ ap (pixel w xs) same ∙ e
  | inr other ↦ h k (omega (arith, l, other))
]

-- one more that is negative, if one is
lead_case : (t : Bool) (f : ℕ) → cond t f 0 + cond t 1 0 ≡ cond t (suc f) 0
lead_case true f = omega arith
lead_case false f = refl

-- how many of them are negative
pub negatives_lead : (w : ℕ) (b : ℤ) (xs : List ℕ) (f m n : ℕ) → ((k : ℕ) → k < f → pixel w xs k ≡ b) → f + m ≡ n
    → cond (int_lt b (pos 0)) f 0 + negative_count (pixels w xs f m) ≡ negative_count (pixels w xs 0 n)
negatives_lead w b xs zero m n h e = none (int_lt b (pos 0)) (negative_count (pixels w xs 0 m)) ∙ ap (λ k. negative_count (pixels w xs 0 k)) (let z : m ≡ n = omega (arith, e) in z)
  where
    none : (t : Bool) (k : ℕ) → cond t zero zero + k ≡ k
    none true k = omega arith
    none false k = omega arith
negatives_lead w b xs (suc f) m n h e =
    let ih = negatives_lead w b xs f (suc m) n (λ k l. h k (omega (arith, l))) (omega (arith, e)) in
    let sign = ap {B = ℕ} (λ z. cond (int_lt z (pos 0)) 1 0) (h f (omega arith)) in
    let next : f + 1 ≡ suc f = omega arith in
    let rest = ap (λ k. negative_count (pixels w xs k m)) next in
    omega (arith, ih, sign, rest, lead_case (int_lt b (pos 0)) f)

-- a blank pixel comes after the first that is not
pub past_first : (w f i n : ℕ) (xs : List ℕ) (b : ℤ) → (f < n → pixel w xs f ≢ b) → f ≤ i → i < n → pixel w xs i ≡ b → f < i
past_first w f i n xs b stops le lt e = elim (cases_eq f i) [
  | inl same ↦ absurd (stops (omega (arith, le, lt)) (ap (pixel w xs) same ∙ e))
  | inr other ↦ omega (arith, le, other)
]

-- a number between the least and the greatest moves neither
pub least_stays : (low fill : ℤ) → low ≤ℤ fill → int_min low fill ≡ low
least_stays low fill h = omega (arith, ints, clamps, h)

-- the same of the greatest
pub greatest_stays : (high fill : ℤ) → fill ≤ℤ high → int_max high fill ≡ high
greatest_stays high fill h = omega (arith, ints, clamps, h)

-- no more are negative than there are
pub lead_le : (t : Bool) (f r : ℕ) → r ≡ cond t f 0 → r ≤ f
lead_le true f r e = omega (arith, e)
lead_le false f r e = omega (arith, e)

-- the least is at most the first number that is not blank, once that is used
pub least_bound : (f i : ℕ) (low fill x : ℤ) → f ≤ i → (f < i → low ≤ℤ fill) → (f ≡ i → x ≡ fill) → int_min low x ≤ℤ fill
least_bound f i low fill x h under here = elim (cases_eq f i) [
  | inl e ↦ omega (arith, ints, clamps, here e)
  | inr other ↦ omega (arith, ints, clamps, under (omega (arith, h, other)))
]

-- and the greatest at least
pub greatest_bound : (f i : ℕ) (high fill x : ℤ) → f ≤ i → (f < i → fill ≤ℤ high) → (f ≡ i → x ≡ fill) → fill ≤ℤ int_max high x
greatest_bound f i high fill x h over here = elim (cases_eq f i) [
  | inl e ↦ omega (arith, ints, clamps, here e)
  | inr other ↦ omega (arith, ints, clamps, over (omega (arith, h, other)))
]
