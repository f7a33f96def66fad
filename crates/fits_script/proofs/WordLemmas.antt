-- A text's first word, and the number of digits.
use Rattle.std.proofs.Common.{◌≡◌, ℕ, ◌+◌, ◌*◌, ◌^◌, ◌<◌, ◌≤◌, List, [], ◌∷◌, ◌++◌, refl, ap, arith, None, Some, suc}
use Rattle.std.specs.List.{list_any}
use Rattle.std.proofs.Math.Nat.{pow-le-pow_right, pow-suc}
use Rattle.std.proofs.lemmas.Bool.{or_parts}
use Rattle.fits_value.specs.Spelling.{is_space}
use Rattle.fits_script.specs.Cut.{HasNo}
use Rattle.fits_script.specs.Words.{first_word, after_word}

-- without a space a text is one word
pub first_word-alone : (word : List ℕ) → HasNo 32 word → first_word word ≡ word
unfolding first_word
first_word-alone [] none = refl
first_word-alone (b ∷ bs) none =
    let parts = or_parts (is_space b) (list_any is_space bs) none in
    rw parts.0 (ap (λ t. b ∷ t) (first_word-alone bs parts.1))

-- and nothing follows it
pub after_word-alone : (word : List ℕ) → HasNo 32 word → after_word word ≡ None
unfolding after_word
after_word-alone [] none = refl
after_word-alone (b ∷ bs) none =
    let parts = or_parts (is_space b) (list_any is_space bs) none in
    rw parts.0 (after_word-alone bs parts.1)

-- a word, a space and more begin with the word
pub first_word-cut : (text word rest : List ℕ) → HasNo 32 word → text ≡ word ++ 32 ∷ rest → first_word text ≡ word
unfolding first_word
first_word-cut text [] rest none e = rw e refl
first_word-cut text (b ∷ bs) rest none e =
    let parts = or_parts (is_space b) (list_any is_space bs) none in
    rw e (rw parts.0 (ap (λ t. b ∷ t) (first_word-cut (bs ++ 32 ∷ rest) bs rest parts.1 refl)))

-- and what follows is the rest
pub after_word-cut : (text word rest : List ℕ) → HasNo 32 word → text ≡ word ++ 32 ∷ rest → after_word text ≡ Some rest
unfolding after_word
after_word-cut text [] rest none e = rw e refl
after_word-cut text (b ∷ bs) rest none e =
    let parts = or_parts (is_space b) (list_any is_space bs) none in
    rw e (rw parts.0 (after_word-cut (bs ++ 32 ∷ rest) bs rest parts.1 refl))

pub ruleset word_steps = (first_word-alone, after_word-alone, first_word-cut, after_word-cut)

-- digits so far are small enough for one more
pub room_for_digit : (number digit i : ℕ) → number < 10 ^ i → i < 18 → digit < 10 → number * 10 + digit < 10 ^ 18
room_for_digit number digit i small few d =
    let more : 10 ^ suc i ≤ 10 ^ 18 = pow-le-pow_right {n = 10} (omega arith) {i = suc i} {j = 18} (omega arith) in
    omega (arith, more, pow-suc 10 i)

-- and of 30 digits
pub room_for_digit_30 : (number digit i : ℕ) → number < 10 ^ i → i < 30 → digit < 10 → number * 10 + digit < 10 ^ 30
room_for_digit_30 number digit i small few d =
    let more : 10 ^ suc i ≤ 10 ^ 30 = pow-le-pow_right {n = 10} (omega arith) {i = suc i} {j = 30} (omega arith) in
    omega (arith, more, pow-suc 10 i)

-- a number of at most 30 digits
pub below_30_digits : (number i : ℕ) → number < 10 ^ i → i ≤ 30 → number < 10 ^ 30
below_30_digits number i small few =
    let more : 10 ^ i ≤ 10 ^ 30 = pow-le-pow_right {n = 10} (omega arith) {i = i} {j = 30} few in
    omega (arith, more)
