-- Rectangles and values in a line, put together and taken apart.
use Rattle.std.proofs.Common.{◌≡◌, ℕ, ◌≤◌, List, [], ◌∷◌, ◌++◌, length, refl, ap, sym, inl, inr, arith, rules, true, false, Bool, Option, None, Some, Result, Ok, Err}
use Rattle.std.specs.Prelude.{◌==◌, nat_le, ℤ, map, if◌then◌else◌}
use Rattle.std.specs.List.{join_with_byte, list_all, list_any, slice_split}
use Rattle.std.specs.Option.{option_map}
use Rattle.std.proofs.lemmas.Bool.{and_parts, cases_Bool, leb-true, or_from, or_parts}
use Rattle.std.proofs.lemmas.Option.{option_and_then_some}
use Rattle.fits_value.specs.Number.{signed, value_of}
use Rattle.fits_value.specs.Spelling.{is_digit}
use Rattle.fits_edit.specs.declared.paint.Paint.{Paint}
use Rattle.fits_edit.specs.declared.paint.Paint.TheVariants.{Write}
use Rattle.fits_script.specs.Cut.{HasNo}
use Rattle.fits_laws.specs.Forms.{minus_if, AreAxes, AreValues, IsAxis, IsRectangle, IsValue, IsValues}
use Rattle.fits_script.specs.Line.{values_last}
use Rattle.fits_script.specs.Words.{after_colon, axis_of_word, before_colon, corners_of_word, each_read, is_negative, is_number, list_of_text, number_of_word, value_of_word, without_minus}
use Rattle.fits_script.specs.declared.misfit.Misfit.{Misfit}
use Rattle.fits_script.specs.declared.misfit.Misfit.TheVariants.{WordMissing}
use Rattle.fits_laws.proofs.FormLemmas.{number_of_word-is, three_parts, tested_some, was_some, IsNumber-is}
use Rattle.fits_script.proofs.PartsLemmas.{before_colon-cut, after_colon-cut}
use Rattle.fits_laws.proofs.JoinedLemmas.{joined-parts, some_parts, EachHasNo, each_read-none, each_read-some, list_of_text-joined}

-- a digit is none of the bytes that stand between numbers
pub digit-between : (byte : ℕ) → is_digit byte ≡ true → ((byte == 58) ≡ false) × ((byte == 44) ≡ false) × ((byte == 32) ≡ false) × ((byte == 45) ≡ false)
digit-between byte is =
    let parts = and_parts (nat_le 48 byte) (nat_le byte 57) is in
    let low : 48 ≤ byte = leb-true 48 byte parts.0 in
    let high : byte ≤ 57 = leb-true byte 57 parts.1 in
    (search (rules, high), search (rules, low), search (rules, low), search (rules, low))

-- digits are without a byte that is no digit
pub digits_without : (other : ℕ) (word : List ℕ) → ((byte : ℕ) → is_digit byte ≡ true → (byte == other) ≡ false) → list_all is_digit word ≡ true → HasNo other word
digits_without other [] none all = refl
digits_without other (b ∷ bs) none all =
    let parts = and_parts (is_digit b) (list_all is_digit bs) all in
    or_from (b == other) (list_any (λ byte. byte == other) bs) (none b parts.0) (digits_without other bs none parts.1)

-- a byte that stands in neither of two texts, nor between them, isn't in the whole
without_between : (other byte : ℕ) (front back : List ℕ) → (byte == other) ≡ false → HasNo other front → HasNo other back → HasNo other (front ++ byte ∷ back)
without_between other byte [] back differs first rest = or_from (byte == other) (list_any (λ x. x == other) back) differs rest
without_between other byte (b ∷ bs) back differs first rest =
    let parts = or_parts (b == other) (list_any (λ x. x == other) bs) first in
    or_from (b == other) (list_any (λ x. x == other) (bs ++ byte ∷ back)) parts.0 (without_between other byte bs back differs parts.1 rest)

-- nor in joined parts, where it is in none of them
pub joined_without : (other byte : ℕ) (parts : List (List ℕ)) → (byte == other) ≡ false → EachHasNo other parts → HasNo other (join_with_byte byte parts)
joined_without other byte [] differs all = refl
joined_without other byte (part ∷ []) differs all = all.0
joined_without other byte (part ∷ next ∷ parts) differs all =
    without_between other byte part (join_with_byte byte (next ∷ parts)) differs all.0 (joined_without other byte (next ∷ parts) differs all.1)

-- a text that is `lo:hi` reads as that
axis_of_word-is : (text : List ℕ) (lo hi : ℕ) → IsAxis text lo hi → axis_of_word text ≡ Some (lo, hi)
unfolding axis_of_word
axis_of_word-is text lo hi axis =
    let no_colon : HasNo 58 axis.lower = digits_without 58 axis.lower (λ b d. (digit-between b d).0) axis.is_lower.digits in
    let before : before_colon text ≡ axis.lower = before_colon-cut text axis.lower axis.upper no_colon axis.is in
    let after : after_colon text ≡ axis.upper = after_colon-cut text axis.lower axis.upper no_colon axis.is in
    rw (before, after, number_of_word-is axis.lower lo axis.is_lower, number_of_word-is axis.upper hi axis.is_upper) refl

-- and has no byte that is neither a digit nor a colon
axis_without : (other : ℕ) (text : List ℕ) (lo hi : ℕ) → ((byte : ℕ) → is_digit byte ≡ true → (byte == other) ≡ false) → (58 == other) ≡ false → IsAxis text lo hi → HasNo other text
axis_without other text lo hi none differs axis =
    rw axis.is (without_between other 58 axis.lower axis.upper differs (digits_without other axis.lower none axis.is_lower.digits) (digits_without other axis.upper none axis.is_upper.digits))

-- a byte that is another
same_byte : (a b : ℕ) → (a == b) ≡ true → a ≡ b
same_byte a b is = search rules

-- a text is what stands before its colon and after it, where something does
colon_cut : (text : List ℕ) → 1 ≤ length (after_colon text) → text ≡ before_colon text ++ 58 ∷ after_colon text
unfolding before_colon after_colon
colon_cut [] some = absurd (omega arith)
colon_cut (b ∷ bs) some =
    elim (cases_Bool (b == 58)) [
      | inl colon ↦ rw colon (ap (λ c. c ∷ bs) (same_byte b 58 colon))
      | inr other ↦ rw other (ap (λ t. b ∷ t) (colon_cut bs (rw other at some)))
    ]

-- a text that reads as an axis is `lo:hi`
IsAxis-is : (text : List ℕ) (axis : ℕ × ℕ) → axis_of_word text ≡ Some axis → IsAxis text axis.0 axis.1
unfolding axis_of_word
IsAxis-is text axis e =
    option_and_then_some _ (number_of_word (before_colon text)) axis e (λ lower is_lower e1.
    option_and_then_some _ (number_of_word (after_colon text)) axis e1 (λ upper is_upper e2.
    let same : ◌≡◌ {A = ℕ × ℕ} axis (lower, upper) = cc in
    let after = IsNumber-is (after_colon text) upper is_upper in
    rw same (record { lower = before_colon text; upper = after_colon text; is = colon_cut text after.some; is_lower = IsNumber-is (before_colon text) lower is_lower; is_upper = after })))

-- what axes read as, and what isn't in them
record AxesRead (parts : List (List ℕ)) (lo hi : List ℕ) : Type 0 where
  pub axes : List (ℕ × ℕ)
  pub read : each_read axis_of_word parts ≡ Some axes
  pub lower : map (λ axis. axis.0) axes ≡ lo
  pub upper : map (λ axis. axis.1) axes ≡ hi
  pub no_comma : EachHasNo 44 parts
  pub no_space : EachHasNo 32 parts

-- parts that are axes
axes_read : (parts : List (List ℕ)) (lo hi : List ℕ) → AreAxes parts lo hi → AxesRead parts lo hi
unfolding each_read
axes_read [] [] [] are = record { axes = []; read = refl; lower = refl; upper = refl; no_comma = tt; no_space = tt }
axes_read [] [] (h ∷ hi) are = absurd are
axes_read [] (l ∷ lo) hi are = absurd are
axes_read (part ∷ parts) [] hi are = absurd are
axes_read (part ∷ parts) (l ∷ lo) [] are = absurd are
axes_read (part ∷ parts) (l ∷ lo) (h ∷ hi) are =
    let others = axes_read parts lo hi are.1 in
    record {
      axes = (l, h) ∷ others.axes;
      read = rw (axis_of_word-is part l h are.0, others.read) refl;
      lower = ap (λ t. l ∷ t) others.lower;
      upper = ap (λ t. h ∷ t) others.upper;
      no_comma = (axis_without 44 part l h (λ b d. (digit-between b d).1) refl are.0, others.no_comma);
      no_space = (axis_without 32 part l h (λ b d. (digit-between b d).2) refl are.0, others.no_space);
    }

-- parts that read as axes are
AreAxes-are : (parts : List (List ℕ)) (axes : List (ℕ × ℕ)) → each_read axis_of_word parts ≡ Some axes → AreAxes parts (map (λ axis. axis.0) axes) (map (λ axis. axis.1) axes)
AreAxes-are [] axes e = rw (sym (each_read-none axis_of_word axes e)) tt
AreAxes-are (part ∷ parts) axes e = each_read-some axis_of_word part parts axes e (λ axis others is are same. rw (sym same) (IsAxis-is part axis is, AreAxes-are parts others are))

-- the corners of a rectangle
pub corners_of_word-is : (word lo hi : List ℕ) → IsRectangle word lo hi → corners_of_word word ≡ Some (lo, hi)
unfolding corners_of_word
corners_of_word-is word lo hi is =
    let axes = axes_read is.axes lo hi is.are_axes in
    rw (list_of_text-joined axis_of_word 44 word is.axes axes.axes is.is is.some axes.no_comma axes.read, axes.lower, axes.upper) refl

-- a word that has corners is a rectangle
pub IsRectangle-is : (word : List ℕ) (corners : List ℕ × List ℕ) → corners_of_word word ≡ Some corners → IsRectangle word corners.0 corners.1
unfolding corners_of_word list_of_text
IsRectangle-is word corners e =
    option_and_then_some _ (list_of_text axis_of_word 44 word) corners e (λ axes read e1.
    let same : ◌≡◌ {A = List ℕ × List ℕ} corners (map (λ axis. axis.0) axes, map (λ axis. axis.1) axes) = cc in
    let parts : List (List ℕ) = slice_split (λ b. b == 44) word in
    rw same (record { axes = parts; is = joined-parts 44 word; some = some_parts 44 word; are_axes = AreAxes-are parts axes read }))

-- and has no space
pub rectangle_bare : (word lo hi : List ℕ) → IsRectangle word lo hi → HasNo 32 word
rectangle_bare word lo hi is = rw is.is (joined_without 32 44 is.axes refl (axes_read is.axes lo hi is.are_axes).no_space)

-- digits begin with no minus sign
sized : (size : List ℕ) → list_all is_digit size ≡ true → 1 ≤ length size → (is_negative size ≡ false) × (without_minus size ≡ size)
sized [] digits some = absurd (omega arith)
sized (b ∷ bs) digits some =
    let minus : (b == 45) ≡ false = (digit-between b (and_parts (is_digit b) (list_all is_digit bs) digits).0).3 in
    (minus, rw minus refl)

-- 1 to 30 digits pass the test
is_size : (size : List ℕ) → list_all is_digit size ≡ true → 1 ≤ length size → length size ≤ 30 → is_number 30 size ≡ true
is_size size digits some few =
    let a : nat_le 1 (length size) ≡ true = search (rules, some) in
    let b : nat_le (length size) 30 ≡ true = search (rules, few) in
    rw (digits, a, b) refl

-- a value by its sign and its digits
value_by : (negative : Bool) (size : List ℕ) → list_all is_digit size ≡ true → 1 ≤ length size → length size ≤ 30 → value_of_word (minus_if negative ++ size) ≡ Some (signed negative (value_of size))
unfolding value_of_word
value_by true size digits some few = rw (is_size size digits some few) refl
value_by false size digits some few =
    let plain = sized size digits some in
    rw (plain.0, plain.1, is_size size digits some few) refl

-- a word that is a value reads as its number
pub value_of_word-is : (word : List ℕ) (number : ℤ) → IsValue word number → value_of_word word ≡ Some number
value_of_word-is word number is = rw (is.is, is.value) (value_by is.negative is.size is.digits is.some is.few)

-- and has no space
pub value_bare : (word : List ℕ) (number : ℤ) → IsValue word number → HasNo 32 word
value_bare word number is = rw is.is (signed_bare is.negative is.size (digits_without 32 is.size (λ b d. (digit-between b d).2) is.digits))
  where
    signed_bare : (negative : Bool) (size : List ℕ) → HasNo 32 size → HasNo 32 (minus_if negative ++ size)
    signed_bare true size bare = bare
    signed_bare false size bare = bare

-- a word that reads as a value is one, by its sign
value_parts : (negative : Bool) (word size : List ℕ) (number : ℤ) → word ≡ minus_if negative ++ size → (if is_number 30 size then Some (signed negative (value_of size)) else None) ≡ Some number → IsValue word number
value_parts negative word size number is e =
    tested_some (is_number 30 size) (signed negative (value_of size)) number e (λ all same.
    let parts = three_parts (list_all is_digit size) (nat_le 1 (length size)) (nat_le (length size) 30) all in
    record { negative = negative; size = size; is = is; digits = parts.0; some = leb-true 1 (length size) parts.1; few = leb-true (length size) 30 parts.2; value = sym same })

-- a word that reads as a value is one
pub IsValue-is : (word : List ℕ) (number : ℤ) → value_of_word word ≡ Some number → IsValue word number
unfolding value_of_word
IsValue-is [] number e = value_parts false [] [] number refl e
IsValue-is (b ∷ bs) number e =
    elim (cases_Bool (b == 45)) [
      | inl minus ↦ value_parts true (b ∷ bs) bs number (ap (λ c. c ∷ bs) (same_byte b 45 minus)) (rw minus at e)
      | inr other ↦ value_parts false (b ∷ bs) (b ∷ bs) number refl (rw other at e)
    ]

-- words that are values read as their numbers
values_read : (words : List (List ℕ)) (numbers : List ℤ) → AreValues words numbers → (each_read value_of_word words ≡ Some numbers) × EachHasNo 32 words
unfolding each_read
values_read [] [] are = (refl, tt)
values_read [] (n ∷ numbers) are = absurd are
values_read (word ∷ words) [] are = absurd are
values_read (word ∷ words) (n ∷ numbers) are =
    let others = values_read words numbers are.1 in
    (rw (value_of_word-is word n are.0, others.0) refl, (value_bare word n are.0, others.1))

-- words that read as values are
AreValues-are : (words : List (List ℕ)) (numbers : List ℤ) → each_read value_of_word words ≡ Some numbers → AreValues words numbers
AreValues-are [] numbers e = rw (sym (each_read-none value_of_word numbers e)) tt
AreValues-are (word ∷ words) numbers e = each_read-some value_of_word word words numbers e (λ number others is are same. rw (sym same) (IsValue-is word number is, AreValues-are words others are))

-- a text that reads as values is some
IsValues-is : (text : List ℕ) (numbers : List ℤ) → list_of_text value_of_word 32 text ≡ Some numbers → IsValues text numbers
unfolding list_of_text
IsValues-is text numbers e =
    let words : List (List ℕ) = slice_split (λ b. b == 32) text in
    record { words = words; is = joined-parts 32 text; some = some_parts 32 text; are_values = AreValues-are words numbers e }

-- values end a line, where they are written there
pub values_last-is : (size : ℕ) (text : List ℕ) (numbers : List ℤ) → IsValues text numbers → values_last size (Some text) ≡ Ok (Write numbers)
unfolding values_last
values_last-is size text numbers is =
    let read = values_read is.words numbers is.are_values in
    rw (list_of_text-joined value_of_word 32 text is.words numbers is.is is.some read.1 read.0) refl

-- and where they end it, they are written there
pub values_last-says : (size : ℕ) (rest : Option (List ℕ)) (paint : Paint) → values_last size rest ≡ Ok paint → (text : List ℕ) × (numbers : List ℤ) × (rest ≡ Some text) × IsValues text numbers × (paint ≡ Write numbers)
unfolding values_last
values_last-says size None paint e = absurd (let z : ◌≡◌ {A = Result Paint Misfit} (Err WordMissing) (Ok paint) = e in cc)
values_last-says size (Some text) paint e = written (list_of_text value_of_word 32 text) refl (was_some (option_map Write (list_of_text value_of_word 32 text)) _ paint e)
  where
    written : (read : Option (List ℤ)) → list_of_text value_of_word 32 text ≡ read → option_map Write read ≡ Some paint → (t : List ℕ) × (numbers : List ℤ) × (◌≡◌ {A = Option (List ℕ)} (Some text) (Some t)) × IsValues t numbers × (paint ≡ Write numbers)
    written None is made = absurd (let z : ◌≡◌ {A = Option Paint} None (Some paint) = made in cc)
    written (Some numbers) is made = (text, numbers, refl, IsValues-is text numbers is, let z : ◌≡◌ {A = Option Paint} (Some (Write numbers)) (Some paint) = made in cc)
