-- The checksum text, added up by words.
use Rattle.std.proofs.Common.{◌≡◌, ◌<◌, ◌+◌, ◌-◌, ◌*◌, ◌/◌, ◌%◌, ◌^◌, ℕ, zero, suc, List, [], ◌∷◌, ◌++◌, length, take, drop, refl, arith, sym, ◌∙◌, ap, slice_index}
use Rattle.std.proofs.lemmas.List.{length-append, length-take, length-drop}
use Rattle.byteorder.specs.Endian.{big_bytes}
use Rattle.byteorder.specs.Numbers.{big_from-bytes}
use Rattle.fits_sum.specs.ChecksumText.{checksum_text, with_text, zeros}
use Rattle.fits_sum.specs.OnesComplement.{ones_complement}
use Rattle.fits_sum.specs.Words.{word_total}
use Rattle.fits_sum.specs.Laws.{TextsAreLettersAndDigits, TextsAddComplements, TextsAddComplementsAnywhere, StampedSumsToAllOnes}
use Rattle.fits_sum.proofs.CharacterLemmas.{characters_are}
use Rattle.fits_sum.proofs.SumLemmas.{ones_complement-suc, complements_make_all_ones}
use Rattle.fits_sum.proofs.WordLemmas.{word_total-append}

-- the bytes of a number make it
bytes_make : (n : ℕ) → n < 2 ^ 32 → slice_index (big_bytes 4 n) 0 * 16777216 + slice_index (big_bytes 4 n) 1 * 65536 + slice_index (big_bytes 4 n) 2 * 256 + slice_index (big_bytes 4 n) 3 ≡ n
bytes_make n h = let e = big_from-bytes 4 n [] in omega (arith, e)

-- sixteen characters in place of sixteen `0`, by the bytes whose characters stand in one column
columns_add : (x y z b t0 t1 t2 t3 t4 t5 t6 t7 t8 t9 t10 t11 t12 t13 t14 t15 v0 v1 v2 v3 : ℕ) (rest : List ℕ)
    → t1 + t5 + t9 + t13 ≡ v0 + 192 → t2 + t6 + t10 + t14 ≡ v1 + 192 → t3 + t7 + t11 + t15 ≡ v2 + 192 → t4 + t8 + t12 + t0 ≡ v3 + 192
    → word_total (x ∷ y ∷ z ∷ t0 ∷ t1 ∷ t2 ∷ t3 ∷ t4 ∷ t5 ∷ t6 ∷ t7 ∷ t8 ∷ t9 ∷ t10 ∷ t11 ∷ t12 ∷ t13 ∷ t14 ∷ t15 ∷ b ∷ rest)
    ≡ word_total (x ∷ y ∷ z ∷ (zeros ++ b ∷ rest)) + (v0 * 16777216 + v1 * 65536 + v2 * 256 + v3)
columns_add x y z b t0 t1 t2 t3 t4 t5 t6 t7 t8 t9 t10 t11 t12 t13 t14 t15 v0 v1 v2 v3 rest e1 e2 e3 e4 = omega arith

-- what holds after any three bytes holds after whole words and three bytes
after_words : (k : ℕ) (before xs ys : List ℕ) (n : ℕ) → length before ≡ 4 * k + 3
    → ((x y z : ℕ) → word_total (x ∷ y ∷ z ∷ xs) ≡ word_total (x ∷ y ∷ z ∷ ys) + n)
    → word_total (before ++ xs) ≡ word_total (before ++ ys) + n
after_words zero (x ∷ y ∷ z ∷ []) xs ys n e h = h x y z
after_words zero before xs ys n e h = absurd (omega arith)
after_words (suc k) (a ∷ b ∷ c ∷ d ∷ before) xs ys n e h =
    let ih = after_words k before xs ys n (omega arith) h in omega (arith, ih)
after_words (suc k) before xs ys n e h = absurd (omega arith)

-- after three bytes of a word, and before one
text_adds : (sum x y z b : ℕ) (rest : List ℕ) → sum < 2 ^ 32 → word_total (x ∷ y ∷ z ∷ (checksum_text sum ++ b ∷ rest)) ≡ word_total (x ∷ y ∷ z ∷ (zeros ++ b ∷ rest)) + (4294967295 - sum)
text_adds sum x y z b rest h =
    let n : ℕ = 4294967295 - sum in
    let v0 : ℕ = slice_index (big_bytes 4 n) 0 in
    let v1 : ℕ = slice_index (big_bytes 4 n) 1 in
    let v2 : ℕ = slice_index (big_bytes 4 n) 2 in
    let v3 : ℕ = slice_index (big_bytes 4 n) 3 in
    let c0 = characters_are v0 (omega arith) in
    let c1 = characters_are v1 (omega arith) in
    let c2 = characters_are v2 (omega arith) in
    let c3 = characters_are v3 (omega arith) in
    columns_add x y z b _ _ _ _ _ _ _ _ _ _ _ _ _ _ _ _ v0 v1 v2 v3 rest c0.sum c1.sum c2.sum c3.sum
    ∙ ap (λ (m : ℕ). word_total (x ∷ y ∷ z ∷ (zeros ++ b ∷ rest)) + m) (bytes_make n (omega arith))

-- the text adds the complement from byte 12 of a card on, where some byte follows
text_adds_after : (sum : ℕ) (before after : List ℕ) → sum < 2 ^ 32 → length before ≡ 11 → 0 < length after
    → word_total (before ++ (checksum_text sum ++ after)) ≡ word_total (before ++ (zeros ++ after)) + (4294967295 - sum)
text_adds_after sum before [] h e some = absurd (omega arith)
text_adds_after sum before (b ∷ rest) h e some =
    after_words 2 before (checksum_text sum ++ b ∷ rest) (zeros ++ b ∷ rest) (4294967295 - sum) (omega arith) (λ x y z. text_adds sum x y z b rest h)

-- the text adds the complement to its card
pub texts_add_complements : TextsAddComplements
texts_add_complements sum card h long =
    text_adds_after sum (take 11 card) (drop 27 card) h (omega (arith, length-take 11 card)) (omega (arith, length-drop 27 card))

-- a card with sixteen bytes in place of sixteen is as long
length-with_text : (card text : List ℕ) → length card ≡ 80 → length text ≡ 16 → length (with_text card text) ≡ 80
length-with_text card text long sixteen =
    omega (arith, length-append (take 11 card) (text ++ drop 27 card), length-append text (drop 27 card), length-take 11 card, length-drop 27 card)

-- the total that a card is part of
word_total-around : (before card after : List ℕ) → length before % 4 ≡ 0 → length card ≡ 80
    → word_total (before ++ (card ++ after)) ≡ word_total before + (word_total card + word_total after)
word_total-around before card after whole long =
    word_total-append (length before / 4) before (card ++ after) (omega arith)
    ∙ ap (λ (t : ℕ). word_total before + t) (word_total-append 20 card after (omega arith))

-- the text adds the complement to whatever its card is part of
pub texts_add_complements_anywhere : TextsAddComplementsAnywhere
texts_add_complements_anywhere sum before card after h whole long =
    let adds = texts_add_complements sum card h long in
    let with_sum = word_total-around before (with_text card (checksum_text sum)) after whole (length-with_text card (checksum_text sum) long refl) in
    let with_zeros = word_total-around before (with_text card zeros) after whole (length-with_text card zeros long refl) in
    omega (arith, adds, with_sum, with_zeros)

-- a text is of sixteen letters and digits
pub texts_are_letters_and_digits : TextsAreLettersAndDigits
texts_are_letters_and_digits sum h =
    let n : ℕ = 4294967295 - sum in
    let c0 = characters_are (slice_index (big_bytes 4 n) 0) (omega arith) in
    let c1 = characters_are (slice_index (big_bytes 4 n) 1) (omega arith) in
    let c2 = characters_are (slice_index (big_bytes 4 n) 2) (omega arith) in
    let c3 = characters_are (slice_index (big_bytes 4 n) 3) (omega arith) in
    (refl, rw (c3.fourth, c0.first, c1.first, c2.first, c3.first, c0.second, c1.second, c2.second, c3.second, c0.third, c1.third, c2.third, c3.third, c0.fourth, c1.fourth, c2.fourth) refl)

-- a sum has 32 bits
ones_complement-lt : (total : ℕ) → ones_complement total < 2 ^ 32
ones_complement-lt zero = omega arith
ones_complement-lt (suc n) = let e = ones_complement-suc n (suc n) refl in rw e (omega arith)

-- what is stamped with the text of its sum sums to all ones
pub stamped_sums_to_all_ones : StampedSumsToAllOnes
stamped_sums_to_all_ones sum before card after whole long is_sum =
    let total : ℕ = word_total (before ++ (with_text card zeros ++ after)) in
    let small : sum < 2 ^ 32 = rw (sym is_sum) (ones_complement-lt total) in
    ap ones_complement (texts_add_complements_anywhere sum before card after small whole long)
    ∙ ap (λ (s : ℕ). ones_complement (total + (4294967295 - s))) (sym is_sum)
    ∙ complements_make_all_ones total
