-- The names of the keywords of columns, by those of the axes.
use Rattle.std.proofs.Common.{◌≡◌, ℕ, ◌+◌, ◌-◌, suc, List, [], ◌∷◌, ◌++◌, length, drop, get_or, codes, replicate, refl, ap, sym, ◌∙◌, arith, length-append, append_assoc, zero, Bool, true, false, take, ◌≤◌, inl, inr}
use Rattle.std.specs.Fmt.{decimal}
use Rattle.std.proofs.lemmas.List.{length-replicate}
use Rattle.fits_rules.specs.Shape.{axis_name, up_to}
use Rattle.std.specs.Prelude.{◌&&◌, nat_le, nat_lt, pos, Option, None, Some, option_and_then, if◌then◌else◌}
use Rattle.std.specs.List.{list_all, prefix_len, take_while}
use Rattle.std.proofs.Math.Seq.{drop-cons}
use Rattle.std.proofs.lemmas.Bool.{cases_Bool, cond-false, ltb-true}
use Rattle.std.specs.Str.{bytes_eq}
use Rattle.fits_codes.specs.Keywords.{is_count, is_one_of}
use Rattle.fits_value.specs.Characters.{is_digit, is_space}
use Rattle.fits_value.specs.Number.{value_of}
use Rattle.fits_value.specs.NumberSteps.{after_digits}
use Rattle.fits_table.specs.Leads.{column_name, column_number, column_roots, count_after, front_number, is_after}
use Rattle.fits_table.specs.Numeral.{numeral}

-- a list of three
three : (xs : List ℕ) → length xs ≡ 3 → xs ≡ get_or xs 0 0 ∷ get_or xs 1 0 ∷ get_or xs 2 0 ∷ []
three [] size = absurd (omega arith)
three (a ∷ []) size = absurd (omega arith)
three (a ∷ b ∷ []) size = absurd (omega arith)
three (a ∷ b ∷ c ∷ []) size = refl
three (a ∷ b ∷ c ∷ d ∷ xs) size = absurd (omega arith)

-- of five
five : (xs : List ℕ) → length xs ≡ 5 → xs ≡ get_or xs 0 0 ∷ get_or xs 1 0 ∷ get_or xs 2 0 ∷ get_or xs 3 0 ∷ get_or xs 4 0 ∷ []
five [] size = absurd (omega arith)
five (a ∷ []) size = absurd (omega arith)
five (a ∷ b ∷ xs) size = let rest : length xs ≡ 3 = omega (arith, size) in ap (λ (ys : List ℕ). a ∷ b ∷ ys) (three xs rest)

-- the last three of eight
last_three : (xs : List ℕ) → length xs ≡ 8 → drop 5 xs ≡ get_or xs 5 0 ∷ get_or xs 6 0 ∷ get_or xs 7 0 ∷ []
last_three [] size = absurd (omega arith)
last_three (a ∷ []) size = absurd (omega arith)
last_three (a ∷ b ∷ []) size = absurd (omega arith)
last_three (a ∷ b ∷ c ∷ []) size = absurd (omega arith)
last_three (a ∷ b ∷ c ∷ d ∷ []) size = absurd (omega arith)
last_three (a ∷ b ∷ c ∷ d ∷ e ∷ xs) size = let rest : length xs ≡ 3 = omega (arith, size) in three xs rest

-- a root of five letters, and the last three bytes of the axis of that number
behind_root : (root : List ℕ) (n : ℕ) → length root ≡ 5 → root ++ drop 5 (axis_name n) ≡ column_name root n
unfolding axis_name column_name
behind_root [] n size = absurd (omega arith)
behind_root (a ∷ []) n size = absurd (omega arith)
behind_root (a ∷ b ∷ []) n size = absurd (omega arith)
behind_root (a ∷ b ∷ c ∷ []) n size = absurd (omega arith)
behind_root (a ∷ b ∷ c ∷ d ∷ []) n size = absurd (omega arith)
behind_root (a ∷ b ∷ c ∷ d ∷ e ∷ []) n size = refl
behind_root (a ∷ b ∷ c ∷ d ∷ e ∷ f ∷ xs) n size = absurd (omega arith)

-- the same, byte by byte
pub root_named : (root axis : List ℕ) (n : ℕ) → length root ≡ 5 → length axis ≡ 8 → axis ≡ axis_name n
    → get_or root 0 0 ∷ get_or root 1 0 ∷ get_or root 2 0 ∷ get_or root 3 0 ∷ get_or root 4 0 ∷ get_or axis 5 0 ∷ get_or axis 6 0 ∷ get_or axis 7 0 ∷ [] ≡ column_name root n
root_named root axis n root_size axis_size is =
    ap (λ (front : List ℕ). front ++ get_or axis 5 0 ∷ get_or axis 6 0 ∷ get_or axis 7 0 ∷ []) (sym (five root root_size))
    ∙ (ap (λ (back : List ℕ). root ++ back) (sym (last_three axis axis_size))
    ∙ (ap (λ (axis : List ℕ). root ++ drop 5 axis) is ∙ behind_root root n root_size))

-- one space more
push_space : (m : ℕ) → replicate {A = ℕ} (suc m) 32 ≡ replicate {A = ℕ} m 32 ++ 32 ∷ []
push_space zero = refl
push_space (suc m) = ap (λ (rest : List ℕ). 32 ∷ rest) (push_space m)

-- behind a root of four letters one space more
pub dimensions_named : (axis : List ℕ) (n : ℕ) → length axis ≡ 8 → axis ≡ axis_name n → 84 ∷ 68 ∷ 73 ∷ 77 ∷ get_or axis 5 0 ∷ get_or axis 6 0 ∷ get_or axis 7 0 ∷ 32 ∷ [] ≡ column_name (codes "TDIM") n
unfolding axis_name column_name
dimensions_named axis n axis_size is =
    let d = decimal n in
    let m = 8 - length (codes "NAXIS" ++ d) in
    let tail : get_or axis 5 0 ∷ get_or axis 6 0 ∷ get_or axis 7 0 ∷ [] ≡ d ++ replicate m 32 = sym (last_three axis axis_size) ∙ ap (λ (text : List ℕ). drop 5 text) is in
    let size : 3 ≡ length d + m = ap (λ (text : List ℕ). length text) tail ∙ (length-append d (replicate m 32) ∙ ap (λ k. length d + k) (length-replicate m 32)) in
    let five : length (codes "NAXIS" ++ d) ≡ 5 + length d = length-append (codes "NAXIS") d in
    let four : length (codes "TDIM" ++ d) ≡ 4 + length d = length-append (codes "TDIM") d in
    let more : 8 - length (codes "TDIM" ++ d) ≡ suc m = omega (arith, size, five, four) in
    ap (λ (rest : List ℕ). 84 ∷ 68 ∷ 73 ∷ 77 ∷ rest)
    (ap (λ (text : List ℕ). text ++ 32 ∷ []) tail ∙ (append_assoc d (replicate m 32) (32 ∷ []) ∙ (ap (λ (spaces : List ℕ). d ++ spaces) (sym (push_space m)) ∙ ap (λ k. d ++ replicate k 32) (sym more))))

-- a number up to so many isn't after them
not_after : (c : Bool) (fields number : ℕ) → number ≤ fields → is_after fields (if c then Some number else None) ≡ false
not_after false fields number small = refl
not_after true fields number small = elim (cases_Bool (nat_lt fields number)) [
  | inl after ↦ absurd (omega (arith, ltb-true fields number after, small))
  | inr within ↦ within
]

-- nor is one that a text stands for
number_within : (c : Bool) (limit fields number : ℕ) → number ≤ fields → is_after fields (option_and_then (up_to limit) (if c then Some (pos number) else None)) ≡ false
number_within false limit fields number small = refl
number_within true limit fields number small = not_after (nat_le number limit) fields number small

-- where there is one
if_any : (c : Bool) (fields : ℕ) (number : Option ℕ) → is_after fields number ≡ false → is_after fields (if c then number else None) ≡ false
if_any false fields number within = refl
if_any true fields number within = within

-- digits of a number up to so many count no column after them
count_within : (fields : ℕ) (rest : List ℕ) → value_of (take_while is_digit rest) ≤ fields → is_after fields (count_after rest) ≡ false
unfolding numeral
count_within fields rest small =
    let digits = take_while is_digit rest in
    if_any (is_count digits && list_all is_space (after_digits rest)) fields (numeral digits)
    (number_within (nat_lt 0 (length digits) && list_all is_digit digits) 9223372036854775807 fields (value_of digits) small)

-- without a digit there is none
no_count : (fields byte : ℕ) (rest : List ℕ) → is_digit byte ≡ false → is_after fields (count_after (byte ∷ rest)) ≡ false
no_count fields byte rest other =
    let none : prefix_len is_digit (byte ∷ rest) ≡ 0 = cond-false (is_digit byte) (1 + prefix_len is_digit rest) 0 other in
    ap (λ k. is_after fields (if is_count (take k (byte ∷ rest)) && list_all is_space (drop k (byte ∷ rest)) then numeral (take k (byte ∷ rest)) else None)) none

-- of the two numbers that a name may have, neither is after so many
chosen : (one other : Bool) (fields : ℕ) (a b : Option ℕ) → is_after fields a ≡ false → is_after fields b ≡ false → is_after fields (if one then a else (if other then b else None)) ≡ false
chosen true other fields a b first second = first
chosen false true fields a b first second = second
chosen false false fields a b first second = refl

-- the digits of a name say that its column isn't after so many
pub past_quick : (fields : ℕ) (name : List ℕ) → length name ≡ 8 → is_digit (get_or name 4 0) ≡ false → front_number (get_or name 5 0) (get_or name 6 0) (get_or name 7 0) ≤ fields → is_after fields (column_number name) ≡ false
unfolding column_number
past_quick fields name size other small =
    let front : value_of (take_while is_digit (drop 5 name)) ≤ fields = rw (last_three name size) small in
    let behind : drop 4 name ≡ get_or name 4 0 ∷ drop 5 name = drop-cons name 4 0 (omega (arith, size)) in
    let four : is_after fields (count_after (drop 4 name)) ≡ false = ap (λ rest. is_after fields (count_after rest)) behind ∙ no_count fields (get_or name 4 0) (drop 5 name) other in
    chosen (is_one_of column_roots (take 5 name)) (bytes_eq (take 4 name) (codes "TDIM")) fields (count_after (drop 5 name)) (count_after (drop 4 name)) (count_within fields (drop 5 name) front) four

-- so it has no value for one
pub past_no : (value after : Bool) → after ≡ false → false ≡ (value && after)
past_no true after is = sym is
past_no false after is = refl

pub ruleset past_steps = (past_no)
