-- Words of a line, and numbers of words.
use Rattle.std.proofs.Common.{ℤ, pos, negsuc, ◌^◌, ◌⊎◌, inl, inr, ◌&&◌, nat_lt, w64, Err, subst, option_map, MatchOption, if◌then◌else◌, ◌≡◌, ℕ, ◌+◌, ◌==◌, Bool, true, false, ◌||◌, List, [], ◌∷◌, ◌++◌, length, take, drop, get_or, suc, ◌<◌, arith, Bor, Option, Some, None, refl, ap, sym, ◌∙◌}
use Rattle.std.proofs.lemmas.List.Splits.{slice_split-cons_yes, slice_split-cons_no}
use Rattle.std.proofs.lemmas.Bool.Decides.{nat_tests}
use Rattle.std.proofs.lemmas.List.{take-append-drop}
use Rattle.std.proofs.Math.Seq.{drop-cons}
use Rattle.std.proofs.lemmas.Bool.{and_from, and_parts, lt-ltb}
use Rattle.std.proofs.lemmas.Int.{ints}
use Rattle.std.proofs.lemmas.Str.Parse.{IsNumeralModel, numerals_by_value, tells_all_ascii_digits}
use borrow.Author.Tests.{ltb-true}
use Rattle.std.specs.Int.{FitsUnsigned, w128}
use Rattle.std.specs.Prelude.{FitsSigned}
use Rattle.std.specs.Str.{all_ascii_digits}
use Rattle.std.specs.Str.Parse.{IsNumeral, ParsesSigned, digits_value, signed_digits_value, without_leading_sign}
use Rattle.serde_json.specs.Find.{of_integer}
use Rattle.serde_json.specs.View.{number_view}
use Rattle.serde_json.specs.declared.number.Number.{Number}
use Rattle.fits_json.specs.Values.{integer_said, is_numeral_text, is_of_64_bits}
use Rattle.std.specs.List.{list_any, onto_first, slice_split}

-- a number is itself: as a test
eqb-same : (a b : ℕ) → a ≡ b → (a == b) ≡ true
eqb-same a b e = grind (arith, nat_tests, e)

-- words that are left, with this byte between
abbrev pub words_left : ℕ → Option (Bor (List ℕ)) → List (List ℕ)
words_left separator None = []
words_left separator (Some left) = slice_split (λ (it : ℕ). it == separator) left.now

-- how many bytes are left, and one more where some words are
abbrev pub len_left : Option (Bor (List ℕ)) → ℕ
len_left None = 0
len_left (Some left) = length left.now + 1

-- the first of two tests that both fail
first_false : (a b : Bool) → (a || b) ≡ false → a ≡ false
first_false false b e = refl
first_false true b e = e

-- the second
second_false : (a b : Bool) → (a || b) ≡ false → b ≡ false
second_false false b e = e
second_false true b e = absurd (cc)

-- the first word ends before the first byte of this number
pub split_word : (p : ℕ → Bool) (xs : List ℕ) (y : ℕ) (ys : List ℕ) → list_any p xs ≡ false → p y ≡ true → slice_split p (xs ++ y ∷ ys) ≡ xs ∷ slice_split p ys
split_word p [] y ys none is = slice_split-cons_yes p y ys is
split_word p (x ∷ xs) y ys none is =
    slice_split-cons_no p x (xs ++ y ∷ ys) (first_false (p x) (list_any p xs) none)
    ∙ ap (onto_first x) (split_word p xs y ys (second_false (p x) (list_any p xs) none) is)

-- the same at a place of a text
pub word_at : (separator i : ℕ) (words : List ℕ) → i < length words → list_any (λ (it : ℕ). it == separator) (take i words) ≡ false → get_or words i 0 ≡ separator
    → slice_split (λ (it : ℕ). it == separator) words ≡ take i words ∷ slice_split (λ (it : ℕ). it == separator) (drop 1 (drop i words))
word_at separator i words in_text none is =
    let at : words ≡ take i words ++ get_or words i 0 ∷ drop (suc i) words = sym (take-append-drop i words) ∙ ap (λ xs. take i words ++ xs) (drop-cons words i 0 in_text) in
    let rest : drop (suc i) words ≡ drop 1 (drop i words) = sym (ap (drop 1) (drop-cons words i 0 in_text)) in
    ap (slice_split (λ (it : ℕ). it == separator)) at
    ∙ split_word (λ (it : ℕ). it == separator) (take i words) (get_or words i 0) (drop (suc i) words) none (eqb-same (get_or words i 0) separator is)
    ∙ ap (λ xs. take i words ∷ slice_split (λ (it : ℕ). it == separator) xs) rest

-- without one there is one word
pub split_one : (p : ℕ → Bool) (xs : List ℕ) → list_any p xs ≡ false → slice_split p xs ≡ xs ∷ []
split_one p [] none = refl
split_one p (x ∷ xs) none =
    slice_split-cons_no p x xs (first_false (p x) (list_any p xs) none)
    ∙ ap (onto_first x) (split_one p xs (second_false (p x) (list_any p xs) none))

-- an integer of 64 bits is one that an unsigned or a signed type holds
fits_64 : (z : ℤ) → is_of_64_bits z ≡ true → FitsUnsigned w64 z ⊎ FitsSigned w64 z
fits_64 (pos n) is = let small : n < 2 ^ 64 = ltb-true n (2 ^ 64) is in inl (omega (arith, ints), omega (arith, ints, small))
fits_64 (negsuc n) is = inr (record { sfits = ltb-true n (2 ^ 63) is })

-- so one of 128 bits holds it
fits_128 : (z : ℤ) → is_of_64_bits z ≡ true → FitsSigned w128 z
fits_128 (pos n) is = let small : n < 2 ^ 64 = ltb-true n (2 ^ 64) is in record { sfits = omega (arith, small) }
fits_128 (negsuc n) is = let small : n < 2 ^ 63 = ltb-true n (2 ^ 63) is in record { sfits = omega (arith, small) }

-- digits, in the words of `parse`
digits_model : IsNumeralModel (λ ds. all_ascii_digits ds ≡ true) (digits_value 10)
digits_model = numerals_by_value (λ ds. all_ascii_digits ds ≡ true) tells_all_ascii_digits

-- a numeral, in those words
numeral_to : (ds : List ℕ) → (nat_lt 0 (length ds) && all_ascii_digits ds) ≡ true → IsNumeral 10 ds
numeral_to ds is = let both = and_parts (nat_lt 0 (length ds)) (all_ascii_digits ds) is in (ltb-true 0 (length ds) both.0, digits_model.to ds both.1)

-- and back
numeral_from : (ds : List ℕ) → IsNumeral 10 ds → (nat_lt 0 (length ds) && all_ascii_digits ds) ≡ true
numeral_from ds is = and_from (nat_lt 0 (length ds)) (all_ascii_digits ds) (lt-ltb 0 (length ds) is.0) (digits_model.from ds is.1)

-- a test that fails where what it says does
fails_by : (b : Bool) → (b ≡ true → ⊥) → b ≡ false
fails_by true h = absurd (h refl)
fails_by false h = refl

-- what `parse` takes for no integer of 128 bits is none of 64
pub none_said : {E : Type 0} → (text : List ℕ) (e : E) → ParsesSigned w128 10 text (Err e) → None ≡ integer_said text
none_said text e h =
    let z : ℤ = signed_digits_value 10 text in
    let fails : (is_numeral_text text && is_of_64_bits z) ≡ false =
    fails_by (is_numeral_text text && is_of_64_bits z) (λ is. let both = and_parts (is_numeral_text text) (is_of_64_bits z) is in h (numeral_to (without_leading_sign text) both.0, fits_128 z both.1)) in
    sym (ap (λ b. if b then Some (of_integer z) else None) fails)

-- one of 64 is said
pub some_said : (text : List ℕ) (z : ℤ) (it : Option Number) → IsNumeral 10 (without_leading_sign text) → z ≡ signed_digits_value 10 text → is_of_64_bits z ≡ true
    → MatchOption it (¬ FitsUnsigned w64 z × ¬ FitsSigned w64 z) (λ x. number_view x ≡ of_integer z) → option_map number_view it ≡ integer_said text
some_said text z None digits is small made = absurd (elim (fits_64 z small) [ inl u ↦ made.0 u | inr s ↦ made.1 s ])
some_said text z (Some x) digits is small made =
    let here : (is_numeral_text text && is_of_64_bits (signed_digits_value 10 text)) ≡ true =
    and_from (is_numeral_text text) (is_of_64_bits (signed_digits_value 10 text)) (numeral_from (without_leading_sign text) digits) (subst (λ y. is_of_64_bits y ≡ true) is small) in
    ap Some (made ∙ ap of_integer is) ∙ sym (ap (λ b. if b then Some (of_integer (signed_digits_value 10 text)) else None) here)
