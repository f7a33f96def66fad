-- How many elements an array has.
use Rattle.std.proofs.Common.{◌≡◌, ℕ, zero, suc, ◌≤◌, ◌<◌, ◌*◌, ◌-◌, ◌^◌, List, [], ◌∷◌, Option, None, Some, option_and_then, inl, inr, refl, ap, sym, ◌∙◌, arith}
use Rattle.std.specs.Prelude.{min}
use Rattle.std.specs.List.{fold, slice_split}
use Rattle.std.specs.Option.{option_map}
use Rattle.std.proofs.Math.Nat.{min-eq_left, min-eq_right, min-le_right, mul_assoc}
use Rattle.std.proofs.lemmas.Bool.{cases_lt}
use Rattle.fits_rules.specs.Size.{product}
use Rattle.fits_table.specs.Dimensions.{is_comma, numerals, bracketed, dimensions_of}
use Rattle.fits_table.specs.DimensionSteps.{limited, times, limited_volume}
use Rattle.fits_table.specs.Numeral.{numeral}

-- a factor from one on makes no number smaller
grows : (a n : ℕ) → a ≤ a * suc n
grows a n = omega arith

-- a larger number and its multiples are limited alike
over : (a r m : ℕ) → m < a → min (m * r) m ≡ min (a * r) m
over a zero m large =
    let none : m * 0 ≡ 0 = omega arith in
    let also : a * 0 ≡ 0 = omega arith in
    rw (none, also) refl
over a (suc n) m large =
    let more : m ≤ a * suc n = omega (arith, grows a n) in
    min-eq_right (grows m n) ∙ sym (min-eq_right more)

-- a limited number times a factor, limited, is the product limited
saturates : (a r m : ℕ) → min (min a m * r) m ≡ min (a * r) m
saturates a r m = elim (cases_lt m a) [
  | inl large ↦ let more : m ≤ a = omega arith in ap (λ k. min (k * r) m) (min-eq_right more) ∙ over a r m large
  | inr small ↦ ap (λ k. min (k * r) m) (min-eq_left small)
]

-- once a size isn't read there is none
none_stays : (texts : List (List ℕ)) → fold times None texts ≡ None
none_stays [] = refl
none_stays (text ∷ texts) = none_stays texts

-- the sizes of the other axes
rest_times : (volume size : ℕ) (sizes : Option (List ℕ)) →
    option_map (λ ns. limited (limited (volume * size) * product ns)) sizes ≡ option_map (λ ns. limited (volume * product ns)) (option_map (λ ns. size ∷ ns) sizes)
rest_times volume size None = refl
rest_times volume size (Some ns) = ap Some (saturates (volume * size) (product ns) (2 ^ 128 - 1) ∙ ap limited (mul_assoc volume size (product ns)))

-- the elements of all axes, from a number on
abbrev volume_from : List (List ℕ) → ℕ → Option ℕ
volume_from texts volume = option_map (λ sizes. limited (volume * product sizes)) (numerals texts)

-- one more size before others
first_times : (volume : ℕ) (size : Option ℕ) (texts : List (List ℕ)) → ((n : ℕ) → n ≤ 2 ^ 128 - 1 → fold times (Some n) texts ≡ volume_from texts n)
    → fold times (option_map (λ n. limited (volume * n)) size) texts
    ≡ option_map (λ sizes. limited (volume * product sizes)) (option_and_then (λ number. option_map (λ numbers. number ∷ numbers) (numerals texts)) size)
first_times volume None texts more = none_stays texts
first_times volume (Some n) texts more = more (limited (volume * n)) (min-le_right (volume * n) (2 ^ 128 - 1)) ∙ rest_times volume n (numerals texts)

-- the sizes one after the other, times a number
fold_times : (texts : List (List ℕ)) (volume : ℕ) → volume ≤ 2 ^ 128 - 1 → fold times (Some volume) texts ≡ volume_from texts volume
fold_times [] volume small = let one : volume * 1 ≡ volume = omega arith in ap Some (sym (ap limited one ∙ min-eq_left small))
fold_times (text ∷ texts) volume small = first_times volume (numeral text) texts (fold_times texts)

-- one times a product is that product
once : (sizes : Option (List ℕ)) → option_map (λ ns. limited (1 * product ns)) sizes ≡ option_map (λ ns. limited (product ns)) sizes
once None = refl
once (Some ns) = let same : 1 * product ns ≡ product ns = omega arith in ap (λ n. Some (limited n)) same

-- the sizes of all axes
pub volume_read : (text inside : List ℕ) → bracketed text ≡ Some inside → fold times (Some 1) (slice_split is_comma inside) ≡ limited_volume text
unfolding limited_volume dimensions_of
volume_read text inside is =
    fold_times (slice_split is_comma inside) 1 (omega arith)
    ∙ (once (numerals (slice_split is_comma inside))
    ∙ sym (ap (λ found. option_map (λ sizes. limited (product sizes)) (option_and_then (λ inside. numerals (slice_split is_comma inside)) found)) is))

-- without brackets there are none
pub no_volume : (text : List ℕ) → bracketed text ≡ None → None ≡ limited_volume text
unfolding limited_volume dimensions_of
no_volume text none = sym (ap (λ found. option_map (λ sizes. limited (product sizes)) (option_and_then (λ inside. numerals (slice_split is_comma inside)) found)) none)

pub ruleset volume_steps = (volume_read, no_volume)
