-- Bytes scanned side by side.
use Rattle.std.proofs.Common.{◌≡◌, ◌≤◌, ◌<◌, ◌+◌, ◌*◌, ◌-◌, ◌^◌, ℕ, zero, suc, Bool, true, false, cond, not, eqb, List, [], ◌∷◌, ◌++◌, length, map, drop, take, slice_index, get_or, refl, arith, sym, ◌∙◌, ap, inl, inr, Some, w8}
use Rattle.std.specs.Prelude.{min, max, replicate, filter, ℤ, pos, ◌+ℤ◌}
use Rattle.std.specs.Int.{int_min, int_max}
use Rattle.std.specs.Simd.Lanes.{sum_l, zip2, chunk, sel_l, top, Each1}
use Rattle.std.proofs.lemmas.Int.{ints, clamps}
use Rattle.std.proofs.lemmas.Bool.{cases_eq}
use Rattle.std.proofs.lemmas.Bool.Decides.{nat_tests}
use Rattle.std.proofs.lemmas.List.{map-append, drop_more}
use Rattle.std.proofs.lemmas.Simd.{tops_compared, zip2_splat}
use Rattle.std.proofs.Math.Seq.{take-add}
use lib.Dec.{ltb}
use mir.Val.{bits}
use Rattle.fits_pixels.specs.Pixels.{pixel, pixels}
use Rattle.fits_pixels.specs.Scan.{lowest, highest, found_summary}
use Rattle.fits_pixels.specs.Statistics.{is_blank, defined_numbers, sum_of, statistics}
use Rattle.fits_pixels.proofs.ScanLemmas.{low_from, high_from, Scanned, AllBetween, scanned_result, is_blank_same, is_blank_other}

-- a byte for the least: BLANK's number counts as 255
abbrev pub or_top : ℕ → ℕ → ℕ
or_top b x = cond (eqb x b) 255 x

-- a byte for the greatest and the sum: BLANK's number counts as 0
abbrev pub or_none : ℕ → ℕ → ℕ
or_none b x = cond (eqb x b) 0 x

-- a byte for the count: 1 for BLANK's number
abbrev pub is_hit : ℕ → ℕ → ℕ
is_hit b x = cond (eqb x b) 1 0

-- ---- the least, the greatest and the sum of lists

-- no byte is above 255
pub lowest-le : (xs : List ℕ) → lowest xs ≤ 255
lowest-le [] = omega arith
lowest-le (x ∷ xs) = let ih = lowest-le xs in omega (arith, ih)

-- the least of two lists, end to end
lowest-append : (xs ys : List ℕ) → lowest (xs ++ ys) ≡ min (lowest xs) (lowest ys)
lowest-append [] ys = omega (arith, lowest-le ys)
lowest-append (x ∷ xs) ys = let ih = lowest-append xs ys in omega (arith, ih)

-- the greatest of two lists, end to end
highest-append : (xs ys : List ℕ) → highest (xs ++ ys) ≡ max (highest xs) (highest ys)
highest-append [] ys = omega arith
highest-append (x ∷ xs) ys = let ih = highest-append xs ys in omega (arith, ih)

-- the sum of two lists, end to end
sum-append : (xs ys : List ℕ) → sum_l (xs ++ ys) ≡ sum_l xs + sum_l ys
sum-append [] ys = omega arith
sum-append (x ∷ xs) ys = let ih = sum-append xs ys in omega (arith, ih)

-- sixteen bytes more
pub more : (f : ℕ → ℕ) (i : ℕ) (block : List ℕ) → map f (take (16 * (i + 1)) block) ≡ map f (take (16 * i) block) ++ map f (chunk (16 * i) 16 block)
more f i block =
    let e : 16 * (i + 1) ≡ 16 * i + 16 = omega arith in
    ap (λ n. map f (take n block)) e ∙ ap (map f) (take-add (16 * i) 16 block) ∙ map-append f (take (16 * i) block) (chunk (16 * i) 16 block)

-- ---- lanes

-- a choice by a test of each lane
picked : (t : ℕ → Bool) (n a : ℕ) (xs : List ℕ) → length xs ≡ n → sel_l (map t xs) (replicate n a) xs ≡ map (λ x. cond (t x) a x) xs
picked t zero a [] e = refl
picked t (suc n) a [] e = absurd (omega arith)
picked t zero a (x ∷ xs) e = absurd (omega arith)
picked t (suc n) a (x ∷ xs) e = ap (λ l. cond (t x) a x ∷ l) (picked t n a xs (omega arith))

-- a choice of one of two numbers
marked : (t : ℕ → Bool) (n a d : ℕ) (xs : List ℕ) → length xs ≡ n → sel_l (map t xs) (replicate n a) (replicate n d) ≡ map (λ x. cond (t x) a d) xs
marked t zero a d [] e = refl
marked t (suc n) a d [] e = absurd (omega arith)
marked t zero a d (x ∷ xs) e = absurd (omega arith)
marked t (suc n) a d (x ∷ xs) e = ap (λ l. cond (t x) a d ∷ l) (marked t n a d xs (omega arith))

-- the lanes that hold a number, as a mask
abbrev pub hits : ℕ → List ℕ → List Bool
hits b xs = map (top 7) (zip2 (λ x y. cond (eqb x y) (2 ^ bits w8 - 1) 0) xs (replicate 16 b))

-- which these are
hits_are : (b : ℕ) (xs : List ℕ) → length xs ≡ 16 → hits b xs ≡ map (λ x. eqb x b) xs
hits_are b xs e = tops_compared w8 eqb xs (replicate 16 b) ∙ zip2_splat eqb xs 16 b e

-- a number in their place
pub put_in : (b a : ℕ) (xs : List ℕ) → length xs ≡ 16 → sel_l (hits b xs) (replicate 16 a) xs ≡ map (λ x. cond (eqb x b) a x) xs
put_in b a xs e = ap (λ ms. sel_l ms (replicate 16 a) xs) (hits_are b xs e) ∙ picked (λ x. eqb x b) 16 a xs e

-- a number for these, and one for the others
pub put_all : (b a d : ℕ) (xs : List ℕ) → length xs ≡ 16 → sel_l (hits b xs) (replicate 16 a) (replicate 16 d) ≡ map (λ x. cond (eqb x b) a d) xs
put_all b a d xs e = ap (λ ms. sel_l ms (replicate 16 a) (replicate 16 d)) (hits_are b xs e) ∙ marked (λ x. eqb x b) 16 a d xs e

-- where the first of two lists is less, as a mask
abbrev pub less : List ℕ → List ℕ → List Bool
less xs ys = map (top 7) (zip2 (λ x y. cond (ltb x y) (2 ^ bits w8 - 1) 0) xs ys)

-- the lesser of two
lesser_is : (x y : ℕ) → cond (ltb x y) x y ≡ min x y
lesser_is x y = grind (arith, nat_tests)

-- the greater of two
greater_is : (x y : ℕ) → cond (ltb x y) y x ≡ max x y
greater_is x y = grind (arith, nat_tests)

-- the lesser lanes
lowest_case : (xs ys : List ℕ) → length xs ≡ length ys → lowest (sel_l (zip2 ltb xs ys) xs ys) ≡ min (lowest xs) (lowest ys)
lowest_case [] [] e = omega arith
lowest_case (x ∷ xs) (y ∷ ys) e = let ih = lowest_case xs ys (omega arith) in omega (arith, ih, lesser_is x y)
lowest_case [] (y ∷ ys) e = absurd (omega arith)
lowest_case (x ∷ xs) [] e = absurd (omega arith)

-- the greater lanes
highest_case : (xs ys : List ℕ) → length xs ≡ length ys → highest (sel_l (zip2 ltb xs ys) ys xs) ≡ max (highest xs) (highest ys)
highest_case [] [] e = omega arith
highest_case (x ∷ xs) (y ∷ ys) e = let ih = highest_case xs ys (omega arith) in omega (arith, ih, greater_is x y)
highest_case [] (y ∷ ys) e = absurd (omega arith)
highest_case (x ∷ xs) [] e = absurd (omega arith)

-- the least of the lesser lanes
pub lowest-lanes : (xs ys : List ℕ) → length xs ≡ length ys → lowest (sel_l (less xs ys) xs ys) ≡ min (lowest xs) (lowest ys)
lowest-lanes xs ys e = ap (λ ms. lowest (sel_l ms xs ys)) (tops_compared w8 ltb xs ys) ∙ lowest_case xs ys e

-- the greatest of the greater lanes
pub highest-lanes : (xs ys : List ℕ) → length xs ≡ length ys → highest (sel_l (less xs ys) ys xs) ≡ max (highest xs) (highest ys)
highest-lanes xs ys e = ap (λ ms. highest (sel_l ms ys xs)) (tops_compared w8 ltb xs ys) ∙ highest_case xs ys e

-- ---- the statistics of bytes

-- a byte is blank where it is BLANK's
blank_is : (b y : ℕ) → is_blank (Some (pos b)) (pos y) ≡ eqb y b
blank_is b y = elim (cases_eq y b) [
  | inl e ↦ is_blank_same (pos b) (pos y) (ap pos e) ∙ sym (let z : eqb y b ≡ true = grind (arith, nat_tests) in z)
  | inr ne ↦ is_blank_other (pos b) (pos y) (λ e. ne (omega (arith, ints, e))) ∙ sym (let z : eqb y b ≡ false = grind (arith, nat_tests) in z)
]

-- the least with one byte more
least_case : (t : Bool) (m y l : ℕ) (ds : List ℤ) → m ≤ 255 → ((k : ℕ) → k ≤ 255 → low_from (pos k) ds ≡ pos (min k l)) → low_from (pos m) (cond (not t) (pos y ∷ ds) ds) ≡ pos (min m (min (cond t 255 y) l))
least_case true m y l ds h ih = ih m h ∙ ap pos (let e : min m l ≡ min m (min 255 l) = omega (arith, h) in e)
least_case false m y l ds h ih =
    let e : int_min (pos m) (pos y) ≡ pos (min m y) = omega (arith, ints, clamps) in
    ap (λ z. low_from z ds) e ∙ ih (min m y) (omega (arith, h)) ∙ ap pos (let f : min (min m y) l ≡ min m (min y l) = omega arith in f)

-- the least of the defined bytes
least_bytes : (b m : ℕ) (ys : List ℕ) → m ≤ 255 → low_from (pos m) (defined_numbers (Some (pos b)) (map pos ys)) ≡ pos (min m (lowest (map (or_top b) ys)))
least_bytes b m [] h = ap pos (let e : m ≡ min m 255 = omega (arith, h) in e)
least_bytes b m (y ∷ ys) h =
    let ds : List ℤ = defined_numbers (Some (pos b)) (map pos ys) in
    ap (λ t. low_from (pos m) (cond (not t) (pos y ∷ ds) ds)) (blank_is b y) ∙ least_case (eqb y b) m y (lowest (map (or_top b) ys)) ds h (λ k l. least_bytes b k ys l)

-- the greatest with one byte more
greatest_case : (t : Bool) (m y l : ℕ) (ds : List ℤ) → ((k : ℕ) → high_from (pos k) ds ≡ pos (max k l)) → high_from (pos m) (cond (not t) (pos y ∷ ds) ds) ≡ pos (max m (max (cond t 0 y) l))
greatest_case true m y l ds ih = ih m ∙ ap pos (let e : max m l ≡ max m (max 0 l) = omega arith in e)
greatest_case false m y l ds ih =
    let e : int_max (pos m) (pos y) ≡ pos (max m y) = omega (arith, ints, clamps) in
    ap (λ z. high_from z ds) e ∙ ih (max m y) ∙ ap pos (let f : max (max m y) l ≡ max m (max y l) = omega arith in f)

-- the greatest of the defined bytes
greatest_bytes : (b m : ℕ) (ys : List ℕ) → high_from (pos m) (defined_numbers (Some (pos b)) (map pos ys)) ≡ pos (max m (highest (map (or_none b) ys)))
greatest_bytes b m [] = ap pos (let e : m ≡ max m 0 = omega arith in e)
greatest_bytes b m (y ∷ ys) =
    let ds : List ℤ = defined_numbers (Some (pos b)) (map pos ys) in
    ap (λ t. high_from (pos m) (cond (not t) (pos y ∷ ds) ds)) (blank_is b y) ∙ greatest_case (eqb y b) m y (highest (map (or_none b) ys)) ds (λ k. greatest_bytes b k ys)

-- the sum with one byte more
sum_case : (t : Bool) (y s : ℕ) (ds : List ℤ) → sum_of ds ≡ pos s → sum_of (cond (not t) (pos y ∷ ds) ds) ≡ pos (cond t 0 y + s)
sum_case true y s ds e = e ∙ ap pos (let f : s ≡ 0 + s = omega arith in f)
sum_case false y s ds e = omega (arith, ints, e)

-- the sum of the defined bytes
sum_bytes : (b : ℕ) (ys : List ℕ) → sum_of (defined_numbers (Some (pos b)) (map pos ys)) ≡ pos (sum_l (map (or_none b) ys))
sum_bytes b [] = refl
sum_bytes b (y ∷ ys) =
    let ds : List ℤ = defined_numbers (Some (pos b)) (map pos ys) in
    ap (λ t. sum_of (cond (not t) (pos y ∷ ds) ds)) (blank_is b y) ∙ sum_case (eqb y b) y (sum_l (map (or_none b) ys)) ds (sum_bytes b ys)

-- the count with one byte more
count_case : (t : Bool) (z : ℤ) (s : ℕ) (bs : List ℤ) → length bs ≡ s → length (cond t (z ∷ bs) bs) ≡ cond t 1 0 + s
count_case true z s bs e = omega (arith, e)
count_case false z s bs e = omega (arith, e)

-- the number of blank bytes
count_bytes : (b : ℕ) (ys : List ℕ) → length (filter (is_blank (Some (pos b))) (map pos ys)) ≡ sum_l (map (is_hit b) ys)
count_bytes b [] = refl
count_bytes b (y ∷ ys) =
    let bs : List ℤ = filter (is_blank (Some (pos b))) (map pos ys) in
    ap (λ t. length (cond t (pos y ∷ bs) bs)) (blank_is b y) ∙ count_case (eqb y b) (pos y) (sum_l (map (is_hit b) ys)) bs (count_bytes b ys)

-- pixels of one byte are the bytes
pub pixels-bytes : (xs : List ℕ) (a n : ℕ) → a + n ≤ length xs → pixels 1 xs a n ≡ map pos (take n (drop a xs))
pixels-bytes xs a zero h = refl
pixels-bytes xs a (suc n) h =
    let d : drop a xs ≡ get_or xs a 0 ∷ drop (a + 1) xs = drop_more xs a 0 (omega arith) in
    let e : a * 1 ≡ a = omega arith in
    let one : pixel 1 xs a ≡ pos (get_or xs a 0) = ap (λ k. pos (slice_index xs k * 1 + 0)) e ∙ ap pos (omega arith) in
    ap (λ z. z ∷ pixels 1 xs (a + 1) n) one ∙ ap (λ zs. pos (get_or xs a 0) ∷ zs) (pixels-bytes xs (a + 1) n (omega arith)) ∙ ap (λ ys. map pos (take (suc n) ys)) (sym d)

-- what the lanes found are the statistics
pub lanes_found : (b : ℕ) (ys : List ℕ) (all : List ℤ) (least greatest sum count defined : ℕ) (low high total : ℤ) → all ≡ map pos ys → AllBetween (pos 0) (pos 255) all → defined + count ≡ length all
    → least ≡ lowest (map (or_top b) ys) → greatest ≡ highest (map (or_none b) ys) → sum ≡ sum_l (map (or_none b) ys) → count ≡ sum_l (map (is_hit b) ys)
    → low ≡ pos least → high ≡ pos greatest → total ≡ pos sum → found_summary defined count low high total ≡ statistics (Some (pos b)) all
lanes_found b ys all least greatest sum count defined low high total e range n l g s k p q r =
    let at_least : min 255 (lowest (map (or_top b) ys)) ≡ least = omega (arith, l, lowest-le (map (or_top b) ys)) in
    let at_most : max 0 (highest (map (or_none b) ys)) ≡ greatest = omega (arith, g) in
    let scanned : Scanned (Some (pos b)) (pos 255) (pos 0) (pos least) (pos greatest) (pos sum) count [] all = record {
      least = sym (ap (λ zs. low_from (pos 255) (defined_numbers (Some (pos b)) zs)) e ∙ least_bytes b 255 ys (omega arith) ∙ ap pos at_least);
      greatest = sym (ap (λ zs. high_from (pos 0) (defined_numbers (Some (pos b)) zs)) e ∙ greatest_bytes b 0 ys ∙ ap pos at_most);
      total = (let z : pos sum +ℤ pos 0 ≡ pos sum = omega (arith, ints) in z) ∙ ap pos s ∙ sym (sum_bytes b ys) ∙ sym (ap (λ zs. sum_of (defined_numbers (Some (pos b)) zs)) e);
      counted = omega (arith, k, count_bytes b ys, ap (λ zs. length (filter (is_blank (Some (pos b))) zs)) e);
    } in
    scanned_result (Some (pos b)) (pos 255) (pos 0) (pos least) (pos greatest) (pos sum) low high total defined count all scanned range n p q r

-- no more bytes are blank than there are
pub hits-le : (b : ℕ) (xs : List ℕ) → sum_l (map (is_hit b) xs) ≤ length xs
hits-le b [] = omega arith
hits-le b (x ∷ xs) = let ih = hits-le b xs in hit_case (eqb x b) (sum_l (map (is_hit b) xs)) (length xs) ih
  where
    hit_case : (t : Bool) (s n : ℕ) → s ≤ n → cond t 1 0 + s ≤ suc n
    hit_case true s n h = omega (arith, h)
    hit_case false s n h = omega (arith, h)

-- a choice of bytes is a byte
pub or_none_small : (b : ℕ) (xs : List ℕ) → Each1 (λ x. x < 256) xs → Each1 (λ x. x < 256) (map (or_none b) xs)
or_none_small b [] h = tt
or_none_small b (x ∷ xs) h = (one (eqb x b) x h.0, or_none_small b xs h.1)
  where
    one : (t : Bool) (x : ℕ) → x < 256 → cond t 0 x < 256
    one true x h = omega arith
    one false x h = h

-- a mark is a byte
pub is_hit_small : (b : ℕ) (xs : List ℕ) → Each1 (λ x. x < 256) (map (is_hit b) xs)
is_hit_small b [] = tt
is_hit_small b (x ∷ xs) = (one (eqb x b), is_hit_small b xs)
  where
    one : (t : Bool) → cond t 1 0 < 256
    one true = omega arith
    one false = omega arith

-- sums of lanes are added up
pub sum-lanes : (xs ys : List ℕ) → length xs ≡ length ys → sum_l (zip2 (λ a b. a + b) xs (map (λ y. y) ys)) ≡ sum_l xs + sum_l ys
sum-lanes [] [] e = refl
sum-lanes (x ∷ xs) (y ∷ ys) e = let ih = sum-lanes xs ys (omega arith) in omega (arith, ih)
sum-lanes [] (y ∷ ys) e = absurd (omega arith)
sum-lanes (x ∷ xs) [] e = absurd (omega arith)

-- the least goes on
pub lowest-more : (b i : ℕ) (block xs ys : List ℕ) → length xs ≡ length ys → ys ≡ map (or_top b) (chunk (16 * i) 16 block) → lowest xs ≡ lowest (map (or_top b) (take (16 * i) block))
    → lowest (sel_l (less xs ys) xs ys) ≡ lowest (map (or_top b) (take (16 * (i + 1)) block))
lowest-more b i block xs ys long e h =
    lowest-lanes xs ys long ∙ ap (λ zs. min (lowest xs) (lowest zs)) e ∙ ap (λ m. min m (lowest (map (or_top b) (chunk (16 * i) 16 block)))) h
    ∙ sym (ap lowest (more (or_top b) i block) ∙ lowest-append (map (or_top b) (take (16 * i) block)) (map (or_top b) (chunk (16 * i) 16 block)))

-- the greatest goes on
pub highest-more : (b i : ℕ) (block xs ys : List ℕ) → length xs ≡ length ys → ys ≡ map (or_none b) (chunk (16 * i) 16 block) → highest xs ≡ highest (map (or_none b) (take (16 * i) block))
    → highest (sel_l (less xs ys) ys xs) ≡ highest (map (or_none b) (take (16 * (i + 1)) block))
highest-more b i block xs ys long e h =
    highest-lanes xs ys long ∙ ap (λ zs. max (highest xs) (highest zs)) e ∙ ap (λ m. max m (highest (map (or_none b) (chunk (16 * i) 16 block)))) h
    ∙ sym (ap highest (more (or_none b) i block) ∙ highest-append (map (or_none b) (take (16 * i) block)) (map (or_none b) (chunk (16 * i) 16 block)))

-- a sum goes on
pub sum-more : (f : ℕ → ℕ) (i : ℕ) (block xs ys : List ℕ) → length xs ≡ length ys → ys ≡ map f (chunk (16 * i) 16 block) → sum_l xs ≡ sum_l (map f (take (16 * i) block))
    → sum_l (zip2 (λ a b. a + b) xs (map (λ y. y) ys)) ≡ sum_l (map f (take (16 * (i + 1)) block))
sum-more f i block xs ys long e h =
    sum-lanes xs ys long ∙ ap (λ zs. sum_l xs + sum_l zs) e ∙ ap (λ m. m + sum_l (map f (chunk (16 * i) 16 block))) h
    ∙ sym (ap sum_l (more f i block) ∙ sum-append (map f (take (16 * i) block)) (map f (chunk (16 * i) 16 block)))

-- a choice of lanes has as many
pub length-sel : (ms : List Bool) (xs ys : List ℕ) → length ms ≡ length xs → length ms ≡ length ys → length (sel_l ms xs ys) ≡ length ms
length-sel [] xs ys a b = refl
length-sel (m ∷ ms) [] ys a b = absurd (omega arith)
length-sel (m ∷ ms) (x ∷ xs) [] a b = absurd (omega arith)
length-sel (m ∷ ms) (x ∷ xs) (y ∷ ys) a b = ap suc (length-sel ms xs ys (omega arith) (omega arith))

-- and a comparison of lanes too
pub length-less : (xs ys : List ℕ) → length xs ≡ length ys → length (less xs ys) ≡ length xs
length-less [] [] e = refl
length-less (x ∷ xs) (y ∷ ys) e = ap suc (length-less xs ys (omega arith))
length-less [] (y ∷ ys) e = absurd (omega arith)
length-less (x ∷ xs) [] e = absurd (omega arith)
