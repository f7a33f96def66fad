-- The characters of a byte: found over all 256 bytes, and what they add up to.
use Rattle.std.proofs.Common.{◌≡◌, ◌≤◌, ◌<◌, ◌+◌, ℕ, zero, suc, Bool, true, false, ◌&&◌, ◌==◌, List, [], ◌∷◌, refl, arith, ◌∙◌, ap, slice_index, inl, inr, get_or}
use Rattle.std.specs.List.{range_with_len}
use Rattle.std.proofs.lemmas.Bool.{cases_lt}
use Rattle.std.proofs.lemmas.Bool.Decides.{nat_tests}
use Rattle.std.proofs.lemmas.List.FromFn.{length-range_with_len, get_or-range_with_len}
use Rattle.std.proofs.lemmas.List.Sums.{prefix_len_is}
use Rattle.fits_sum.specs.ChecksumText.{is_excluded_pair, least_move, characters_of, is_letter_or_digit}

-- four characters are letters and digits, and add up to a byte and four times 48
abbrev are_characters_of : ℕ → List ℕ → Bool
are_characters_of byte (a ∷ b ∷ c ∷ d ∷ []) = is_letter_or_digit a && (is_letter_or_digit b && (is_letter_or_digit c && (is_letter_or_digit d && (a + b + c + d == byte + 192))))
are_characters_of byte _ = false

-- the characters of a byte are such
abbrev has_characters : ℕ → Bool
has_characters byte = are_characters_of byte (characters_of byte)

-- a test of each number below n
abbrev passes_below : (ℕ → Bool) → ℕ → Bool
passes_below p zero = true
passes_below p (suc n) = p n && passes_below p n

-- the first of two facts
and_left : (a b : Bool) → (a && b) ≡ true → a ≡ true
and_left true b h = refl
and_left false b h = h

-- the second of two facts
and_right : (a b : Bool) → (a && b) ≡ true → b ≡ true
and_right true b h = h
and_right false b h = absurd (cc)

-- a test of all numbers below n holds of each
passes_at : (p : ℕ → Bool) (n v : ℕ) → v < n → passes_below p n ≡ true → p v ≡ true
passes_at p zero v h e = absurd (omega arith)
passes_at p (suc n) v h e = elim (cases_lt v n) [
  | inl w ↦ passes_at p n v w (and_right (p n) (passes_below p n) e)
  | inr w ↦ let same : v ≡ n = omega arith in ap p same ∙ and_left (p n) (passes_below p n) e
]

-- the characters of all bytes, computed
all_have_characters : passes_below has_characters 256 ≡ true
unfolding characters_of least_move
all_have_characters = refl

-- what the test of four characters says of them
pub record AreCharactersOf (byte : ℕ) (characters : List ℕ) : Type 0 where
  pub first : is_letter_or_digit (slice_index characters 0) ≡ true
  pub second : is_letter_or_digit (slice_index characters 1) ≡ true
  pub third : is_letter_or_digit (slice_index characters 2) ≡ true
  pub fourth : is_letter_or_digit (slice_index characters 3) ≡ true
  pub sum : slice_index characters 0 + slice_index characters 1 + slice_index characters 2 + slice_index characters 3 ≡ byte + 192

-- the five facts of a test
parts : (p q r s : Bool) (m n : ℕ) → (p && (q && (r && (s && (m == n))))) ≡ true → (p ≡ true) × (q ≡ true) × (r ≡ true) × (s ≡ true) × (m ≡ n)
parts true true true true m n h = (refl, refl, refl, refl, grind (arith, nat_tests))
parts false q r s m n h = absurd (cc)
parts true false r s m n h = absurd (cc)
parts true true false s m n h = absurd (cc)
parts true true true false m n h = absurd (cc)

-- the test says so
are_characters_from : (byte : ℕ) (characters : List ℕ) → are_characters_of byte characters ≡ true → AreCharactersOf byte characters
are_characters_from byte (a ∷ b ∷ c ∷ d ∷ []) h =
    let p = parts (is_letter_or_digit a) (is_letter_or_digit b) (is_letter_or_digit c) (is_letter_or_digit d) (a + b + c + d) (byte + 192) h in
    record { first = p.0; second = p.1; third = p.2; fourth = p.3; sum = p.4 }
are_characters_from byte characters h = absurd (cc)

-- the characters of a byte are letters and digits, and add up to it and four times 48
pub characters_are : (byte : ℕ) → byte < 256 → AreCharactersOf byte (characters_of byte)
characters_are byte h = are_characters_from byte (characters_of byte) (passes_at has_characters 256 byte h all_have_characters)

-- the least move is the n before which each pair is excluded, and at which it isn't
pub least_move_is : (first second n : ℕ) → n ≤ 16 → ((k : ℕ) → k < n → is_excluded_pair first second k ≡ true) → (n < 16 → is_excluded_pair first second n ≡ false) → least_move first second ≡ n
unfolding least_move
least_move_is first second n within before at =
    let p : ℕ → Bool = is_excluded_pair first second in
    let xs : List ℕ = range_with_len 0 16 in
    let at_place : (k : ℕ) → k < 16 → get_or xs k 0 ≡ k = λ k h. get_or-range_with_len 0 16 k 0 h ∙ omega arith in
    prefix_len_is p xs n 0 (omega (arith, length-range_with_len 0 16))
    (λ k h. ap p (at_place k (omega arith)) ∙ before k h)
    (λ h. ap p (at_place n h) ∙ at h)
