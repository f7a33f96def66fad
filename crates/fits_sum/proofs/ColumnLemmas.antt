-- Totals of columns: lists of bytes added up place by place.
use Rattle.std.proofs.Common.{◌≡◌, ◌≤◌, ◌<◌, ◌+◌, ◌*◌, ◌^◌, ℕ, List, [], ◌∷◌, length, map, refl, arith, Fits, w16, zero, suc}
use Rattle.std.specs.Simd.Lanes.{zip2, Each1, Each2}
use Rattle.fits_sum.specs.Words.{word_total}

-- the total is linear in the bytes: columns have the sum of the totals
pub word_total-zip2 : (k : ℕ) (xs ys : List ℕ) → length xs ≡ 4 * k → length ys ≡ 4 * k → word_total (zip2 (λ a b. a + b) xs (map (λ y. y) ys)) ≡ word_total xs + word_total ys
word_total-zip2 zero [] [] h l = refl
word_total-zip2 zero xs ys h l = absurd (omega arith)
word_total-zip2 (suc k) (a ∷ b ∷ c ∷ d ∷ xs) (e ∷ f ∷ g ∷ i ∷ ys) h l =
    let ih = word_total-zip2 k xs ys (omega arith) (omega arith) in omega (arith, ih)
word_total-zip2 (suc k) xs ys h l = absurd (omega arith)

-- a column grows by at most 255
pub columns_grow : (n m : ℕ) (xs ys : List ℕ) → m ≡ n + 255 → Each1 (λ x. x ≤ n) xs → Each1 (λ y. y < 256) ys → Each1 (λ x. x ≤ m) (zip2 (λ a b. a + b) xs (map (λ y. y) ys))
columns_grow n m [] ys e p q = tt
columns_grow n m (x ∷ xs) [] e p q = tt
columns_grow n m (x ∷ xs) (y ∷ ys) e p q = (omega (arith, p.0, q.0), columns_grow n m xs ys e p.1 q.1)

-- and so a column fits 16 bits
pub columns_fit : (n : ℕ) (xs ys : List ℕ) → n + 255 < 2 ^ 16 → Each1 (λ x. x ≤ n) xs → Each1 (λ y. y < 256) ys → Each2 (λ a b. Fits w16 (a + b)) xs (map (λ y. y) ys)
columns_fit n [] ys h p q = tt
columns_fit n (x ∷ xs) [] h p q = tt
columns_fit n (x ∷ xs) (y ∷ ys) h p q = (record { fits = omega (arith, p.0, q.0) }, columns_fit n xs ys h p.1 q.1)

-- there are as many columns as before
pub length-columns : (xs ys : List ℕ) → length ys ≡ length xs → length (zip2 (λ a b. a + b) xs (map (λ y. y) ys)) ≡ length xs
length-columns [] ys e = refl
length-columns (x ∷ xs) [] e = absurd (omega arith)
length-columns (x ∷ xs) (y ∷ ys) e = let ih = length-columns xs ys (omega arith) in omega (arith, ih)
