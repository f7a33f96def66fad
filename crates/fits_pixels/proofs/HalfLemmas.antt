-- Totals of pixels without their signs, by halves of words.
use Rattle.std.proofs.Common.{◌≡◌, ◌<◌, ◌+◌, ◌*◌, ◌/◌, ◌%◌, ◌≤◌, ℕ, suc, Bool, true, false, cond, List, arith, sym, ◌∙◌, ap, slice_index, drop}
use Rattle.std.specs.Prelude.{ℤ, pos, ◌+ℤ◌, int_lt}
use Rattle.std.proofs.lemmas.Int.{ints}
use Rattle.byteorder.specs.Endian.{big_from}
use Rattle.byteorder.specs.Numbers.{big_from-lt}
use Rattle.fits_pixels.specs.Pixels.{pixel, pixels}
use Rattle.fits_pixels.specs.Scan.{negative_count, unsigned_total}
use Rattle.fits_pixels.proofs.PixelLemmas.{big_from-drop}
use Rattle.fits_pixels.proofs.ScanLemmas.{pixels-step}

-- ---- signs

-- a test counts as one at most
pub test_le : (t : Bool) → cond t 1 0 ≤ 1
test_le true = omega arith
test_le false = omega arith

-- a turn of a count of signs
pub negatives_turn : (w i n j m : ℕ) (xs : List ℕ) (k k' x : ℤ) (t : Bool) (all : ℕ) → n ≡ suc m → j ≡ i + 1 → x ≡ pixel w xs i → k +ℤ pos (negative_count (pixels w xs i n)) ≡ pos all
    → t ≡ int_lt x (pos 0) → k' ≡ k +ℤ pos (cond t 1 0) → k' +ℤ pos (negative_count (pixels w xs j m)) ≡ pos all
negatives_turn w i n j m xs k k' x t all e f here h sign p =
    let h' = rw (pixels-step w xs i n j m e f) at h in
    let p' = rw (sign ∙ ap (λ z. int_lt z (pos 0)) here) at p in
    omega (arith, ints, h', p')

-- ---- a word has two halves

-- a word by its halves
word_halves : (a : ℕ) (xs : List ℕ) → big_from a 4 xs ≡ big_from a 2 xs * 65536 + big_from (suc (suc a)) 2 xs
word_halves a xs = omega arith

-- a turn by fours
pub fours_turn : (xs : List ℕ) (i n j m s s' all : ℕ) → n ≡ suc m → j ≡ i + 1 → s + unsigned_total 4 xs i n ≡ all → s' ≡ s + big_from (4 * i) 4 xs → s' + unsigned_total 4 xs j m ≡ all
fours_turn xs i n j m s s' all e f h p =
    let at : i * 4 ≡ 4 * i = omega arith in
    let h' = rw (e, at) at h in
    rw f (omega (arith, h', p))

-- what the halves of a word add to a total by twos
pub record Halved (xs : List ℕ) (i word : ℕ) : Type 0 where
  pub is : word ≡ big_from (4 * i) 4 xs
  pub high : word / 65536 ≡ big_from (2 * i * 2) 2 xs
  pub low : word % 65536 ≡ big_from ((2 * i + 1) * 2) 2 xs

-- they do
pub halved : (xs : List ℕ) (i word : ℕ) → ((k : ℕ) → slice_index xs k < 256) → word ≡ big_from 0 4 (drop (4 * i) xs) → Halved xs i word
halved xs i word h e =
    let z : 4 * i + 0 ≡ 4 * i = omega arith in
    let is = e ∙ big_from-drop (4 * i) 0 4 xs ∙ ap (λ k. big_from k 4 xs) z in
    let split = word_halves (4 * i) xs in
    let first : 4 * i ≡ 2 * i * 2 = omega arith in
    let second : suc (suc (4 * i)) ≡ (2 * i + 1) * 2 = omega arith in
    let small = big_from-lt (suc (suc (4 * i))) 2 xs h in
    record {
      is = is;
      high = (let q : word / 65536 ≡ big_from (4 * i) 2 xs = omega (arith, is, split, small) in q) ∙ ap (λ k. big_from k 2 xs) first;
      low = (let r : word % 65536 ≡ big_from (suc (suc (4 * i))) 2 xs = omega (arith, is, split, small) in r) ∙ ap (λ k. big_from k 2 xs) second;
    }

-- a turn by twos
pub twos_turn : (xs : List ℕ) (i n j m s s' all : ℕ) → n ≡ suc (suc m) → j ≡ i + 1 + 1 → s + unsigned_total 2 xs i n ≡ all → s' ≡ s + big_from (i * 2) 2 xs + big_from ((i + 1) * 2) 2 xs
    → s' + unsigned_total 2 xs j m ≡ all
twos_turn xs i n j m s s' all e f h p =
    let h' = rw e at h in
    rw f (omega (arith, h', p))

-- ---- 64 bits

-- a turn by eights
pub eights_turn : (xs : List ℕ) (i n j m s s' all : ℕ) → n ≡ suc m → j ≡ i + 1 → s + unsigned_total 8 xs i n ≡ all → s' ≡ s + big_from (8 * i) 8 xs → s' + unsigned_total 8 xs j m ≡ all
eights_turn xs i n j m s s' all e f h p =
    let at : i * 8 ≡ 8 * i = omega arith in
    let h' = rw (e, at) at h in
    rw f (omega (arith, h', p))

-- a number of eight bytes by its halves
long_words : (a : ℕ) (xs : List ℕ) → big_from a 8 xs ≡ big_from a 4 xs * 4294967296 + big_from (suc (suc (suc (suc a)))) 4 xs
long_words a xs = omega arith

-- the words of a number of 64 bits
pub record LongHalved (xs : List ℕ) (i long : ℕ) : Type 0 where
  pub is : long ≡ big_from (8 * i) 8 xs
  pub high : long / 4294967296 ≡ big_from 0 4 (drop (8 * i) xs)
  pub low : long % 4294967296 ≡ big_from 0 4 (drop (8 * i + 4) xs)

-- they are its halves
pub long_halved : (xs : List ℕ) (i long : ℕ) → ((k : ℕ) → slice_index xs k < 256) → long ≡ big_from 0 8 (drop (8 * i) xs) → LongHalved xs i long
long_halved xs i long h e =
    let z : 8 * i + 0 ≡ 8 * i = omega arith in
    let is = e ∙ big_from-drop (8 * i) 0 8 xs ∙ ap (λ k. big_from k 8 xs) z in
    let split = long_words (8 * i) xs in
    let second : suc (suc (suc (suc (8 * i)))) ≡ 8 * i + 4 + 0 = omega arith in
    let small = big_from-lt (suc (suc (suc (suc (8 * i))))) 4 xs h in
    record {
      is = is;
      high = (let q : long / 4294967296 ≡ big_from (8 * i) 4 xs = omega (arith, is, split, small) in q) ∙ sym (big_from-drop (8 * i) 0 4 xs ∙ ap (λ k. big_from k 4 xs) z);
      low = (let r : long % 4294967296 ≡ big_from (suc (suc (suc (suc (8 * i))))) 4 xs = omega (arith, is, split, small) in r) ∙ ap (λ k. big_from k 4 xs) second ∙ sym (big_from-drop (8 * i + 4) 0 4 xs);
    }
