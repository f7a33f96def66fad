-- How a total goes on from word to word, and over lists end to end.
use Rattle.std.proofs.Common.{◌≡◌, ◌≤◌, ◌<◌, ◌+◌, ◌*◌, ◌/◌, ℕ, List, [], ◌∷◌, ◌++◌, length, drop, take, refl, arith, sym, ◌∙◌, ap, zero, suc}
use Rattle.std.specs.Prelude.{slice_index}
use Rattle.std.proofs.lemmas.List.{drop-drop, take-append-drop, length-take}
use Rattle.std.proofs.Math.ListN.{length-drop}
use Rattle.byteorder.specs.Endian.{big_number}
use Rattle.fits_sum.specs.Words.{word_total}
use Rattle.fits_sum.specs.Laws.{TotalsAdd, TotalsAreBounded}

-- the first word, and the total of the rest
pub word_total-step : (xs : List ℕ) → 4 ≤ length xs → word_total xs ≡ big_number 4 xs + word_total (drop 4 xs)
word_total-step (a ∷ b ∷ c ∷ d ∷ rest) h = refl
word_total-step (a ∷ b ∷ c ∷ []) h = absurd (omega arith)
word_total-step (a ∷ b ∷ []) h = absurd (omega arith)
word_total-step (a ∷ []) h = absurd (omega arith)
word_total-step [] h = absurd (omega arith)

-- no word, no total
pub word_total-none : (xs : List ℕ) → length xs < 4 → word_total xs ≡ 0
word_total-none (a ∷ b ∷ c ∷ d ∷ rest) h = absurd (omega arith)
word_total-none (a ∷ b ∷ c ∷ []) h = refl
word_total-none (a ∷ b ∷ []) h = refl
word_total-none (a ∷ []) h = refl
word_total-none [] h = refl

-- the total from place i on: the word there, and the total from place j on, four bytes later
pub word_total-at : (xs : List ℕ) (i j : ℕ) → j ≡ i + 4 → j ≤ length xs → word_total (drop i xs) ≡ big_number 4 (drop i xs) + word_total (drop j xs)
word_total-at xs i j e h =
    let long : 4 ≤ length (drop i xs) = omega (arith, length-drop i xs) in
    let same : drop 4 (drop i xs) ≡ drop j xs = drop-drop 4 i xs ∙ ap (λ n. drop n xs) (sym e) in
    word_total-step (drop i xs) long ∙ ap (λ ys. big_number 4 (drop i xs) + word_total ys) same

-- the total of two lists end to end, where the first is of k whole words
pub word_total-append : (k : ℕ) (xs ys : List ℕ) → length xs ≡ 4 * k → word_total (xs ++ ys) ≡ word_total xs + word_total ys
word_total-append zero [] ys h = omega arith
word_total-append zero (x ∷ xs) ys h = absurd (omega arith)
word_total-append (suc k) (a ∷ b ∷ c ∷ d ∷ rest) ys h = let ih = word_total-append k rest ys (omega arith) in omega (arith, ih)
word_total-append (suc k) xs ys h = absurd (omega arith)

-- the total from place i on: that of the 4 * k bytes there, and that from place j on, after them
pub word_total-part : (k : ℕ) (xs : List ℕ) (i n j : ℕ) → n ≡ 4 * k → j ≡ i + n → j ≤ length xs → word_total (drop i xs) ≡ word_total (take n (drop i xs)) + word_total (drop j xs)
word_total-part k xs i n j e s h =
    let whole = take-append-drop n (drop i xs) in
    let far : drop n (drop i xs) ≡ drop j xs = drop-drop n i xs ∙ ap (λ m. drop m xs) (sym s) in
    let long : length (take n (drop i xs)) ≡ 4 * k = omega (arith, length-take n (drop i xs), length-drop i xs) in
    let cut = word_total-append k (take n (drop i xs)) (drop n (drop i xs)) long in
    ap word_total (sym whole) ∙ cut ∙ ap (λ ys. word_total (take n (drop i xs)) + word_total ys) far

-- k words of bytes are at most k times all ones
pub word_total-le : (k : ℕ) (xs : List ℕ) → length xs < 4 * k + 4 → ((i : ℕ) → i < length xs → slice_index xs i < 256) → word_total xs ≤ 4294967295 * k
word_total-le zero xs h small = let none = word_total-none xs (omega arith) in omega (arith, none)
word_total-le (suc k) (a ∷ b ∷ c ∷ d ∷ rest) h small =
    let ih = word_total-le k rest (omega arith) (λ i l. small (suc (suc (suc (suc i)))) (omega arith)) in
    omega (arith, ih, small 0 (omega arith), small 1 (omega arith), small 2 (omega arith), small 3 (omega arith))
word_total-le (suc k) (a ∷ b ∷ c ∷ []) h small = omega arith
word_total-le (suc k) (a ∷ b ∷ []) h small = omega arith
word_total-le (suc k) (a ∷ []) h small = omega arith
word_total-le (suc k) [] h small = omega arith

-- totals of whole words add up
pub totals_add : TotalsAdd
totals_add xs ys whole = word_total-append (length xs / 4) xs ys (omega arith)

-- a total of bytes is bounded by their number
pub totals_are_bounded : TotalsAreBounded
totals_are_bounded xs bytes = word_total-le (length xs / 4) xs (omega arith) (λ i l. bytes i 0 l)
