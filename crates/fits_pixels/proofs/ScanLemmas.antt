-- A scan of stored_number numbers, with plain numbers for the least and the greatest.
use Rattle.std.proofs.Common.{◌≡◌, ◌≢◌, ◌<◌, ◌+◌, ◌*◌, ◌^◌, ℕ, zero, suc, Bool, true, false, cond, not, ◌==◌, List, [], ◌∷◌, length, slice_index, refl, arith, sym, ◌∙◌, ap, Option, Some, None}
use Rattle.std.specs.Prelude.{min, max, filter, ℤ, pos, negsuc, ◌+ℤ◌, ◌≤ℤ◌}
use Rattle.std.specs.Int.{FitsUnsignedBits, cast_signed, int_min, int_max, w16, w32, w64}
use Rattle.std.proofs.lemmas.Int.{ints, clamps}
use Rattle.std.proofs.lemmas.Bool.Decides.{nat_tests}
use Rattle.byteorder.specs.Endian.{big_from, twos_complement}
use Rattle.byteorder.specs.Numbers.{big_from-lt}
use Rattle.fits_pixels.specs.Summary.{lesser, greater}
use Rattle.fits_pixels.specs.SummaryLaws.{lesser_assoc, greater_assoc, same_pixels}
use Rattle.fits_pixels.specs.Statistics.{is_blank, defined_numbers, sum_of, least_of, greatest_of, statistics}
use Rattle.fits_pixels.specs.Pixels.{pixel, pixels}
use Rattle.fits_pixels.specs.Scan.{found_summary}

-- the least of a number and a list
abbrev pub low_from : ℤ → List ℤ → ℤ
low_from m [] = m
low_from m (x ∷ xs) = low_from (int_min m x) xs

-- the greatest of a number and a list
abbrev pub high_from : ℤ → List ℤ → ℤ
high_from m [] = m
high_from m (x ∷ xs) = high_from (int_max m x) xs

-- what a scan has found so far, with what is left
pub record Scanned (b : Option ℤ) (top bottom low high sum : ℤ) (blanks : ℕ) (rest all : List ℤ) : Type 0 where
  pub least : low_from low (defined_numbers b rest) ≡ low_from top (defined_numbers b all)
  pub greatest : high_from high (defined_numbers b rest) ≡ high_from bottom (defined_numbers b all)
  pub total : sum +ℤ sum_of (defined_numbers b rest) ≡ sum_of (defined_numbers b all)
  pub counted : blanks + length (filter (is_blank b) rest) ≡ length (filter (is_blank b) all)

-- a number more that is defined
pub scanned_defined : {b : Option ℤ} {top bottom low high sum : ℤ} {blanks : ℕ} {x : ℤ} {rest all : List ℤ} → is_blank b x ≡ false
    → Scanned b top bottom low high sum blanks (x ∷ rest) all → Scanned b top bottom (int_min low x) (int_max high x) (sum +ℤ x) blanks rest all
scanned_defined {b} {top} {bottom} {low} {high} {sum} {blanks} {x} {rest} {all} e s =
    let least : low_from low (cond (not (is_blank b x)) (x ∷ defined_numbers b rest) (defined_numbers b rest)) ≡ low_from top (defined_numbers b all) = s.least in
    let greatest : high_from high (cond (not (is_blank b x)) (x ∷ defined_numbers b rest) (defined_numbers b rest)) ≡ high_from bottom (defined_numbers b all) = s.greatest in
    let total : sum +ℤ sum_of (cond (not (is_blank b x)) (x ∷ defined_numbers b rest) (defined_numbers b rest)) ≡ sum_of (defined_numbers b all) = s.total in
    let counted : blanks + length (cond (is_blank b x) (x ∷ filter (is_blank b) rest) (filter (is_blank b) rest)) ≡ length (filter (is_blank b) all) = s.counted in
    record {
      least = rw e at least;
      greatest = rw e at greatest;
      total = (let again : sum +ℤ x +ℤ sum_of (defined_numbers b rest) ≡ sum +ℤ (x +ℤ sum_of (defined_numbers b rest)) = omega (arith, ints) in again) ∙ rw e at total;
      counted = rw e at counted;
    }

-- a number more that is blank
pub scanned_blank : {b : Option ℤ} {top bottom low high sum : ℤ} {blanks : ℕ} {x : ℤ} {rest all : List ℤ} → is_blank b x ≡ true
    → Scanned b top bottom low high sum blanks (x ∷ rest) all → Scanned b top bottom low high sum (blanks + 1) rest all
scanned_blank {b} {top} {bottom} {low} {high} {sum} {blanks} {x} {rest} {all} e s =
    let least : low_from low (cond (not (is_blank b x)) (x ∷ defined_numbers b rest) (defined_numbers b rest)) ≡ low_from top (defined_numbers b all) = s.least in
    let greatest : high_from high (cond (not (is_blank b x)) (x ∷ defined_numbers b rest) (defined_numbers b rest)) ≡ high_from bottom (defined_numbers b all) = s.greatest in
    let total : sum +ℤ sum_of (cond (not (is_blank b x)) (x ∷ defined_numbers b rest) (defined_numbers b rest)) ≡ sum_of (defined_numbers b all) = s.total in
    let counted : blanks + length (cond (is_blank b x) (x ∷ filter (is_blank b) rest) (filter (is_blank b) rest)) ≡ length (filter (is_blank b) all) = s.counted in
    let more : blanks + suc (length (filter (is_blank b) rest)) ≡ length (filter (is_blank b) all) = rw e at counted in
    record {
      least = rw e at least;
      greatest = rw e at greatest;
      total = rw e at total;
      counted = omega (arith, more);
    }

-- each number lies between two
abbrev pub AllBetween : ℤ → ℤ → List ℤ → Type 0
AllBetween bottom top [] = Unit {0}
AllBetween bottom top (x ∷ xs) = (bottom ≤ℤ x) × (x ≤ℤ top) × AllBetween bottom top xs

-- the least so far, by the least of the list
low_is : (m : ℤ) (xs : List ℤ) → Some (low_from m xs) ≡ lesser (Some m) (least_of xs)
low_is m [] = refl
low_is m (x ∷ xs) = low_is (int_min m x) xs ∙ lesser_assoc (Some m) (Some x) (least_of xs)

-- the greatest so far, by the greatest of the list
high_is : (m : ℤ) (xs : List ℤ) → Some (high_from m xs) ≡ greater (Some m) (greatest_of xs)
high_is m [] = refl
high_is m (x ∷ xs) = high_is (int_max m x) xs ∙ greater_assoc (Some m) (Some x) (greatest_of xs)

-- no number is above the top
under_top : (top x : ℤ) → x ≤ℤ top → int_min top x ≡ x
under_top top x h = omega (arith, ints, clamps, h)

-- no number is below the bottom
over_bottom : (bottom x : ℤ) → bottom ≤ℤ x → int_max bottom x ≡ x
over_bottom bottom x h = omega (arith, ints, clamps, h)

-- where a number was found
some_found : (n : ℕ) (y : Option ℤ) → cond (suc n == 0) None y ≡ y
some_found n y = let z : (suc n == 0) ≡ false = grind (arith, nat_tests) in rw z refl

-- the least found is the least
pub least_found : (bottom top : ℤ) (ds : List ℤ) → AllBetween bottom top ds → cond (length ds == 0) None (Some (low_from top ds)) ≡ least_of ds
least_found bottom top [] h = refl
least_found bottom top (x ∷ xs) h = some_found (length xs) _ ∙ low_is top (x ∷ xs) ∙ sym (lesser_assoc (Some top) (Some x) (least_of xs)) ∙ ap (λ z. lesser (Some z) (least_of xs)) (under_top top x h.1)

-- the greatest found is the greatest
pub greatest_found : (bottom top : ℤ) (ds : List ℤ) → AllBetween bottom top ds → cond (length ds == 0) None (Some (high_from bottom ds)) ≡ greatest_of ds
greatest_found bottom top [] h = refl
greatest_found bottom top (x ∷ xs) h = some_found (length xs) _ ∙ high_is bottom (x ∷ xs) ∙ sym (greater_assoc (Some bottom) (Some x) (greatest_of xs)) ∙ ap (λ z. greater (Some z) (greatest_of xs)) (over_bottom bottom x h.0)

-- numbers in a range stay in it
keep_case : (b : Bool) (bottom top x : ℤ) (ds : List ℤ) → bottom ≤ℤ x → x ≤ℤ top → AllBetween bottom top ds → AllBetween bottom top (cond (not b) (x ∷ ds) ds)
keep_case true bottom top x ds p q h = h
keep_case false bottom top x ds p q h = (p, q, h)

-- the defined numbers lie in the range too
pub defined_between : (b : Option ℤ) (bottom top : ℤ) (xs : List ℤ) → AllBetween bottom top xs → AllBetween bottom top (defined_numbers b xs)
defined_between b bottom top [] h = tt
defined_between b bottom top (x ∷ xs) h = keep_case (is_blank b x) bottom top x (defined_numbers b xs) h.0 h.1 (defined_between b bottom top xs h.2)

-- a number is counted once
count_case : (b : Bool) (x : ℤ) (ds bs : List ℤ) (n : ℕ) → length ds + length bs ≡ n → length (cond (not b) (x ∷ ds) ds) + length (cond b (x ∷ bs) bs) ≡ suc n
count_case true x ds bs n e = omega (arith, e)
count_case false x ds bs n e = omega (arith, e)

-- defined and blank numbers are all numbers
pub counts : (b : Option ℤ) (xs : List ℤ) → length (defined_numbers b xs) + length (filter (is_blank b) xs) ≡ length xs
counts b [] = refl
counts b (x ∷ xs) = count_case (is_blank b x) x (defined_numbers b xs) (filter (is_blank b) xs) (length xs) (counts b xs)

-- at the end the numbers found are the statistics
pub scanned_all : (b : Option ℤ) (top bottom low high sum : ℤ) (defined blanks : ℕ) (all : List ℤ) → Scanned b top bottom low high sum blanks [] all → AllBetween bottom top all → defined + blanks ≡ length all
    → found_summary defined blanks low high sum ≡ statistics b all
scanned_all b top bottom low high sum defined blanks all s range n =
    let ds = defined_numbers b all in
    let in_range = defined_between b bottom top all range in
    let least : low ≡ low_from top ds = s.least in
    let greatest : high ≡ high_from bottom ds = s.greatest in
    let d : defined ≡ length ds = omega (arith, counts b all, s.counted, n) in
    same_pixels _ _ _ _ _ _ _ _ _ _ d (omega (arith, s.counted))
    (ap (λ k. cond (k == 0) None (Some low)) d ∙ ap (λ z. cond (length ds == 0) None (Some z)) least ∙ least_found bottom top ds in_range)
    (ap (λ k. cond (k == 0) None (Some high)) d ∙ ap (λ z. cond (length ds == 0) None (Some z)) greatest ∙ greatest_found bottom top ds in_range)
    (omega (arith, ints, s.total))

-- ---- the pixels

-- the first pixel and the rest
pub pixels-step : (w : ℕ) (xs : List ℕ) (i n j m : ℕ) → n ≡ suc m → j ≡ i + 1 → pixels w xs i n ≡ pixel w xs i ∷ pixels w xs j m
pixels-step w xs i n j m e f = rw (e, f) refl

-- two bytes as a signed number
pub signed_16 : (n : ℕ) → n < 65536 → cast_signed w16 n ≡ twos_complement 2 n
signed_16 n h = grind (arith, ints, nat_tests)

-- four bytes as a signed number
pub signed_32 : (n : ℕ) → n < 2 ^ 32 → cast_signed w32 n ≡ twos_complement 4 n
signed_32 n h = grind (arith, ints, nat_tests)

-- eight bytes as a signed number
pub signed_64 : (n : ℕ) → n < 2 ^ 64 → cast_signed w64 n ≡ twos_complement 8 n
signed_64 n h = grind (arith, ints, nat_tests)

-- a turn of a scan: what is left has a pixel first, and the numbers moved as they should
pub scanned_turn : {b : Option ℤ} {top bottom low high sum low' high' sum' : ℤ} {blanks : ℕ} (w i n j m : ℕ) (xs : List ℕ) {all : List ℤ} → n ≡ suc m → j ≡ i + 1 → is_blank b (pixel w xs i) ≡ false
    → Scanned b top bottom low high sum blanks (pixels w xs i n) all → low' ≡ int_min low (pixel w xs i) → high' ≡ int_max high (pixel w xs i) → sum' ≡ sum +ℤ pixel w xs i
    → Scanned b top bottom low' high' sum' blanks (pixels w xs j m) all
scanned_turn w i n j m xs e f t s p q r =
    let s' = rw (pixels-step w xs i n j m e f) at s in
    rw (p, q, r) (scanned_defined t s')

-- the same, where the numbers were widened
pub scanned_result : (b : Option ℤ) (top bottom low high sum low' high' sum' : ℤ) (defined blanks : ℕ) (all : List ℤ) → Scanned b top bottom low high sum blanks [] all → AllBetween bottom top all → defined + blanks ≡ length all
    → low' ≡ low → high' ≡ high → sum' ≡ sum → found_summary defined blanks low' high' sum' ≡ statistics b all
scanned_result b top bottom low high sum low' high' sum' defined blanks all s range n p q r = rw (p, q, r) (scanned_all b top bottom low high sum defined blanks all s range n)

-- ---- a blank number

-- BLANK's number is blank
pub is_blank_same : (b x : ℤ) → x ≡ b → is_blank (Some b) x ≡ true
is_blank_same b x e = grind (arith, ints)

-- another number is not blank
pub is_blank_other : (b x : ℤ) → x ≢ b → is_blank (Some b) x ≡ false
is_blank_other b x e = grind (arith, ints)

-- a turn that finds a blank number
pub scanned_skip : {b x : ℤ} {top bottom low high sum low' high' sum' : ℤ} {blanks blanks' : ℕ} (w i n j m : ℕ) (xs : List ℕ) {all : List ℤ} → n ≡ suc m → j ≡ i + 1 → x ≡ pixel w xs i → x ≡ b
    → Scanned (Some b) top bottom low high sum blanks (pixels w xs i n) all → low' ≡ low → high' ≡ high → sum' ≡ sum → blanks' ≡ blanks + 1
    → Scanned (Some b) top bottom low' high' sum' blanks' (pixels w xs j m) all
scanned_skip {b} w i n j m xs e f here same s p q r t =
    let s' = rw (pixels-step w xs i n j m e f) at s in
    rw (p, q, r, t) (scanned_blank (is_blank_same b (pixel w xs i) (sym here ∙ same)) s')

-- a turn that finds a defined number
pub scanned_use : {b x : ℤ} {top bottom low high sum low' high' sum' : ℤ} {blanks blanks' : ℕ} (w i n j m : ℕ) (xs : List ℕ) {all : List ℤ} → n ≡ suc m → j ≡ i + 1 → x ≡ pixel w xs i → x ≢ b
    → Scanned (Some b) top bottom low high sum blanks (pixels w xs i n) all → low' ≡ int_min low x → high' ≡ int_max high x → sum' ≡ sum +ℤ x → blanks' ≡ blanks
    → Scanned (Some b) top bottom low' high' sum' blanks' (pixels w xs j m) all
scanned_use {b} {x} {sum = sum} w i n j m xs e f here other s p q r t =
    rw t (scanned_turn w i n j m xs e f (is_blank_other b (pixel w xs i) (λ z. other (here ∙ z))) s (p ∙ ap (int_min _) here) (q ∙ ap (int_max _) here) (r ∙ ap (λ z. sum +ℤ z) here))

-- ---- 8 bits

-- the range of a byte
between_8 : (n : ℕ) → n < 256 → (pos 0 ≤ℤ pos n) × (pos n ≤ℤ pos 255)
between_8 n h = (omega (arith, ints), omega (arith, ints, h))

-- pixels of 8 bits lie in their range
pub range_8 : (xs : List ℕ) (a n : ℕ) → ((k : ℕ) → slice_index xs k < 256) → AllBetween (pos 0) (pos 255) (pixels 1 xs a n)
range_8 xs a zero h = tt
range_8 xs a (suc n) h = let low = big_from-lt (a * 1) 1 xs h in let b = between_8 (big_from (a * 1) 1 xs) (omega (arith, low)) in (b.0, b.1, range_8 xs (a + 1) n h)

-- ---- a BLANK that no pixel can store

-- what is not blank is kept
kept : (t : Bool) (x : ℤ) (ds es : List ℤ) → t ≡ false → ds ≡ es → cond (not t) (x ∷ ds) ds ≡ x ∷ es
kept t x ds es e f = rw (e, f) refl

-- what is not blank is not counted as blank
left_out : (t : Bool) (x : ℤ) (ds es : List ℤ) → t ≡ false → ds ≡ es → cond t (x ∷ ds) ds ≡ es
left_out t x ds es e f = rw (e, f) refl

-- the numbers that are defined and those that are blank, where BLANK lies outside their range
record NoBlank (b : ℤ) (xs : List ℤ) : Type 0 where
  defined : defined_numbers (Some b) xs ≡ defined_numbers None xs
  blank : filter (is_blank (Some b)) xs ≡ filter (is_blank None) xs

-- by the range of the numbers
no_blank : (b bottom top : ℤ) (xs : List ℤ) → AllBetween bottom top xs → (bottom ≤ℤ b → b ≤ℤ top → ⊥) → NoBlank b xs
no_blank b bottom top [] h far = record { defined = refl; blank = refl }
no_blank b bottom top (x ∷ xs) h far =
    let rest = no_blank b bottom top xs h.2 far in
    let e : is_blank (Some b) x ≡ false = is_blank_other b x (λ e. far (omega (arith, ints, h.0, e)) (omega (arith, ints, h.1, e))) in
    record {
      defined = kept (is_blank (Some b) x) x _ _ e rest.defined;
      blank = left_out (is_blank (Some b) x) x _ _ e rest.blank;
    }

-- a BLANK outside the range of the numbers marks none
pub blank_outside : (b bottom top : ℤ) (xs : List ℤ) → AllBetween bottom top xs → (bottom ≤ℤ b → b ≤ℤ top → ⊥) → statistics (Some b) xs ≡ statistics None xs
blank_outside b bottom top xs h far =
    let n = no_blank b bottom top xs h far in
    same_pixels _ _ _ _ _ _ _ _ _ _ (ap length n.defined) (ap length n.blank) (ap least_of n.defined) (ap greatest_of n.defined) (ap sum_of n.defined)

-- ---- numbers without a sign

-- the lesser of two bytes
pub least_8 : (m a x : ℕ) (z : ℤ) → m ≡ min a x → pos x ≡ z → pos m ≡ int_min (pos a) z
least_8 m a x z e h = omega (arith, ints, clamps, e, h)

-- the greater of two bytes
pub greatest_8 : (m a x : ℕ) (z : ℤ) → m ≡ max a x → pos x ≡ z → pos m ≡ int_max (pos a) z
greatest_8 m a x z e h = omega (arith, ints, clamps, e, h)

-- a sum with a byte more
pub sum_8 : (s t x : ℕ) (z : ℤ) → t ≡ x → pos x ≡ z → pos (s + t) ≡ pos s +ℤ z
sum_8 s t x z e h = omega (arith, ints, e, h)

-- what tells that a number isn't one of 8 bits
pub not_8 : (b : ℤ) → (FitsUnsignedBits 8 b → ⊥) → pos 0 ≤ℤ b → b ≤ℤ pos 255 → ⊥
not_8 (pos n) none h k = none (omega (arith, ints, k))
not_8 (negsuc n) none h k = absurd (omega (arith, ints, h))
