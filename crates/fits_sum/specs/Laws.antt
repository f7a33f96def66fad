-- What holds of totals, sums and checksum texts (FITS Standard 4.0, Appendix J).
use Rattle.std.specs.Prelude.{◌≡◌, ◌<◌, ◌≤◌, ℕ, ◌+◌, ◌-◌, ◌*◌, ◌/◌, ◌%◌, ◌^◌, List, ◌++◌, All, length, true}
use Rattle.std.specs.List.{list_all}
use Rattle.fits_sum.specs.ChecksumText.{checksum_text, is_letter_or_digit, with_text, zeros}
use Rattle.fits_sum.specs.OnesComplement.{ones_complement}
use Rattle.fits_sum.specs.Words.{word_total}

-- after whole words the total of what follows is added
abbrev pub TotalsAdd : Type 0
TotalsAdd = (xs ys : List ℕ) → length xs % 4 ≡ 0 → word_total (xs ++ ys) ≡ word_total xs + word_total ys

-- each word of bytes is at most all ones
abbrev pub TotalsAreBounded : Type 0
TotalsAreBounded = (xs : List ℕ) → All (λ b. b < 256) xs → word_total xs ≤ 4294967295 * (length xs / 4)

-- a total may be folded part by part
abbrev pub SumsFold : Type 0
SumsFold = (a b : ℕ) → ones_complement (a + b) ≡ ones_complement (ones_complement a + ones_complement b)

-- a total and its sum's complement make all ones
abbrev pub ComplementsMakeAllOnes : Type 0
ComplementsMakeAllOnes = (total : ℕ) → ones_complement (total + (4294967295 - ones_complement total)) ≡ 4294967295

-- a text is sixteen letters and digits
abbrev pub TextsAreLettersAndDigits : Type 0
TextsAreLettersAndDigits =
    (sum : ℕ) → sum < 2 ^ 32 → (length (checksum_text sum) ≡ 16) × (list_all is_letter_or_digit (checksum_text sum) ≡ true)

-- in place of sixteen `0`, the text adds the complement of its sum to the card's total
abbrev pub TextsAddComplements : Type 0
TextsAddComplements =
    (sum : ℕ) (card : List ℕ) → sum < 2 ^ 32 → length card ≡ 80
    → word_total (with_text card (checksum_text sum)) ≡ word_total (with_text card zeros) + (4294967295 - sum)

-- and so to any total that the card is part of, whatever whole words stand before it and whatever follows
abbrev pub TextsAddComplementsAnywhere : Type 0
TextsAddComplementsAnywhere =
    (sum : ℕ) (before card after : List ℕ) → sum < 2 ^ 32 → length before % 4 ≡ 0 → length card ≡ 80
    → word_total (before ++ (with_text card (checksum_text sum) ++ after))
    ≡ word_total (before ++ (with_text card zeros ++ after)) + (4294967295 - sum)

-- and so an HDU that is stamped with the text of its sum with sixteen `0` sums to all ones
abbrev pub StampedSumsToAllOnes : Type 0
StampedSumsToAllOnes =
    (sum : ℕ) (before card after : List ℕ) → length before % 4 ≡ 0 → length card ≡ 80
    → ones_complement (word_total (before ++ (with_text card zeros ++ after))) ≡ sum
    → ones_complement (word_total (before ++ (with_text card (checksum_text sum) ++ after))) ≡ 4294967295
