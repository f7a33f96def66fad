-- The object of a line has no float, nests no deeper than its arrays, and its JSON is one line.
use Rattle.std.proofs.Common.{◌≡◌, ◌≤◌, ◌<◌, ◌⊎◌, inl, inr, ℕ, ◌+◌, ◌/◌, ◌%◌, ◌^◌, suc, ◌==◌, Bool, true, false, ◌||◌, ◌&&◌, cond, nat_lt, ℤ, pos, negsuc, List, [], ◌∷◌, ◌++◌, map, codes, Bor, Option, Some, None, Ordering, Less, Equal, Greater, if◌then◌else◌, refl, ap, sym, ◌∙◌, arith}
use Rattle.std.specs.Char.{digit_char, is_ascii_digit}
use Rattle.std.specs.Fmt.{decimal}
use Rattle.std.specs.List.{flat_map, list_any}
use Rattle.std.specs.Ordering.{nat_cmp, match_ordering}
use Rattle.std.specs.Cmp.Lexicographic.{slice_cmp}
use Rattle.std.specs.Str.{all_ascii_digits, bytes_eq}
use Rattle.std.specs.Str.Parse.{signed_digits_value}
use Rattle.std.proofs.lemmas.Bool.{and_parts, eqb-true, ne_eqb, or_cases}
use Rattle.std.proofs.lemmas.Fmt.{digits_decimal}
use Rattle.std.proofs.lemmas.List.Folds.{list_any-append}
use Rattle.std.proofs.lemmas.Str.Parse.{numerals_by_value, tells_all_ascii_digits}
use borrow.Author.Tests.{ltb-true}
use Rattle.json.specs.Print.{escape_byte, escape_letter, quoted}
use Rattle.serde_json.specs.Data.{Data, null, number, string, Members, no_members, member, put, depth, items_depth, members_depth}
use Rattle.serde_json.specs.Find.{of_integer}
use Rattle.serde_json.specs.Read.{max_depth}
use Rattle.serde_json.specs.View.{items_of}
use Rattle.serde_json.specs.Written.{comma_if, compact_text, has_float, items_have_float, items_text, members_have_float, members_text}
use Rattle.fits_json.specs.Columns.{behind_column, field_in, form_of, stands_first}
use Rattle.fits_json.specs.Values.{characters, data_by, integer_said, is_numeral_text, is_of_64_bits, is_told, number_data, number_or, unquoted, with_field, words_between}
use Rattle.fits_json.specs.Objects.{data_of_line, IsUnended, json_of_line, of_file, with_fields, with_line}
use Rattle.fits_json.specs.declared.column.Column.{Column}
use Rattle.fits_json.specs.declared.column.Kind.{Kind}
use Rattle.fits_json.specs.declared.column.Kind.TheVariants.{Nothing, Lead, Null, True, False, Empty, Number, Numbers, Text, Through, Quoted, Rest}

-- a value has no float, nests so deep at most, and its JSON has no line feed
record IsPlain (most : ℕ) (it : Data) : Type 0 where
  no_float : has_float it ≡ false
  shallow : depth it ≤ most
  one_line : IsUnended (compact_text it)

-- so is each value of an object
abbrev ArePlain : Members → Type 0
ArePlain no_members = Unit {0}
ArePlain (member key it them) = IsPlain 1 it × ArePlain them

-- two tests that fail
both_false : (a b : Bool) → a ≡ false → b ≡ false → (a || b) ≡ false
both_false a b e f = ap (λ x. x || b) e ∙ f

-- a byte is no line feed
abbrev is_feed : ℕ → Bool
is_feed byte = byte == 10

-- two texts without a line feed
unended-both : (xs ys : List ℕ) → IsUnended xs → IsUnended ys → IsUnended (xs ++ ys)
unended-both xs ys e f = list_any-append is_feed xs ys ∙ both_false (list_any is_feed xs) (list_any is_feed ys) e f

-- a byte before one
unended-cons : (byte : ℕ) (bytes : List ℕ) → (byte ≡ 10 → ⊥) → IsUnended bytes → IsUnended (byte ∷ bytes)
unended-cons byte bytes other rest = both_false (is_feed byte) (list_any is_feed bytes) (ne_eqb byte 10 other) rest

-- a digit of sixteen is none
digit_other : (d : ℕ) → digit_char d ≡ 10 → ⊥
digit_other d e = digit_by (nat_lt d 10) d e
  where
    digit_by : (b : Bool) (d : ℕ) → cond b (48 + d) (87 + d) ≡ 10 → ⊥
    digit_by true d e = absurd (omega (arith, e))
    digit_by false d e = absurd (omega (arith, e))

-- nor is the letter of a short escape
letter_by : (q a b c d e : Bool) (x : ℕ) → (q ≡ true → (x ≡ 34) ⊎ (x ≡ 92)) → cond q x (cond a 98 (cond b 102 (cond c 110 (cond d 114 (cond e 116 0))))) ≡ 10 → ⊥
letter_by true a b c d e x h is = elim (h refl) [ inl u ↦ absurd (omega (arith, u, is)) | inr v ↦ absurd (omega (arith, v, is)) ]
letter_by false true b c d e x h is = absurd (omega (arith, is))
letter_by false false true c d e x h is = absurd (omega (arith, is))
letter_by false false false true d e x h is = absurd (omega (arith, is))
letter_by false false false false true e x h is = absurd (omega (arith, is))
letter_by false false false false false true x h is = absurd (omega (arith, is))
letter_by false false false false false false x h is = absurd (omega (arith, is))

-- a quote or a backslash
quote_or_backslash : (x : ℕ) → ((x == 34) || (x == 92)) ≡ true → (x ≡ 34) ⊎ (x ≡ 92)
quote_or_backslash x is = elim (or_cases (x == 34) (x == 92) is) [ inl u ↦ inl (eqb-true x 34 u) | inr v ↦ inr (eqb-true x 92 v) ]

-- the letter of a byte's short escape
letter_other : (x : ℕ) → escape_letter x ≡ 10 → ⊥
letter_other x is = letter_by ((x == 34) || (x == 92)) (x == 8) (x == 12) (x == 10) (x == 13) (x == 9) x (quote_or_backslash x) is

-- what stands in JSON for a byte, by its cases
byte_by : (short low : Bool) (x letter : ℕ) → (letter ≡ 10 → ⊥) → (low ≡ false → x ≡ 10 → ⊥)
    → IsUnended (cond short (92 ∷ letter ∷ []) (cond low (92 ∷ 117 ∷ 48 ∷ 48 ∷ digit_char (x / 16) ∷ digit_char (x % 16) ∷ []) (x ∷ [])))
byte_by true low x letter other high = unended-cons letter [] other refl
byte_by false true x letter other high =
    unended-cons (digit_char (x / 16)) (digit_char (x % 16) ∷ []) (digit_other (x / 16)) (unended-cons (digit_char (x % 16)) [] (digit_other (x % 16)) refl)
byte_by false false x letter other high = unended-cons x [] (high refl) refl

-- a byte that isn't low is no line feed
high_other : (x : ℕ) → nat_lt x 32 ≡ false → x ≡ 10 → ⊥
high_other x high is = let low : nat_lt x 32 ≡ true = ap (λ n. nat_lt n 32) is in absurd (let both : true ≡ false = sym low ∙ high in cc)

-- what stands in JSON for a byte
unended-byte : (x : ℕ) → IsUnended (escape_byte x)
unfolding escape_byte
unended-byte x = byte_by (nat_lt 0 (escape_letter x)) (nat_lt x 32) x (escape_letter x) (letter_other x) (high_other x)

-- and for bytes
unended-bytes : (text : List ℕ) → IsUnended (flat_map escape_byte text)
unended-bytes [] = refl
unended-bytes (byte ∷ bytes) = unended-both (escape_byte byte) (flat_map escape_byte bytes) (unended-byte byte) (unended-bytes bytes)

-- a string
unended-string : (text : List ℕ) → IsUnended (quoted text)
unended-string text = unended-both (flat_map escape_byte text) (34 ∷ []) (unended-bytes text) refl

-- a digit
ascii_other : (c : ℕ) → is_ascii_digit c ≡ true → c ≡ 10 → ⊥
ascii_other c is e = let low : is_ascii_digit 10 ≡ true = ap is_ascii_digit (sym e) ∙ is in cc

-- digits
unended-digits : (digits : List ℕ) → all_ascii_digits digits ≡ true → IsUnended digits
unended-digits [] all = refl
unended-digits (c ∷ cs) all = let both = and_parts (is_ascii_digit c) (all_ascii_digits cs) all in unended-cons c cs (ascii_other c both.0) (unended-digits cs both.1)

-- a number below 2 ^ 64
unended-decimal : (n : ℕ) → n < 2 ^ 64 → IsUnended (decimal n)
unended-decimal n small = unended-digits (decimal n) (digits_decimal (numerals_by_value (λ ds. all_ascii_digits ds ≡ true) tells_all_ascii_digits) n small)

-- an integer of 64 bits
plain-integer : (z : ℤ) → is_of_64_bits z ≡ true → IsPlain 0 (number (of_integer z))
plain-integer (pos n) small = record { no_float = refl; shallow = omega arith; one_line = unended-decimal n (ltb-true n (2 ^ 64) small) }
plain-integer (negsuc n) small =
    let below : n < 2 ^ 63 = ltb-true n (2 ^ 63) small in
    let above : suc n < 2 ^ 64 = omega (arith, below) in
    record { no_float = refl; shallow = omega arith; one_line = unended-decimal (suc n) above }

-- a text
plain-text : (most : ℕ) (text : List ℕ) → IsPlain most (string text)
plain-text most text = record { no_float = refl; shallow = omega arith; one_line = unended-string text }

-- the integer that a text is, or the text
plain-said : (text : List ℕ) (b : Bool) (z : ℤ) → (b ≡ true → is_of_64_bits z ≡ true) → IsPlain 0 (number_or text (if b then Some (of_integer z) else None))
plain-said text true z small = plain-integer z (small refl)
plain-said text false z small = plain-text 0 text

-- null, or this
plain-if_null : (b : Bool) (it : Data) → IsPlain 0 it → IsPlain 0 (if b then null else it)
plain-if_null true it h = record { no_float = refl; shallow = omega arith; one_line = refl }
plain-if_null false it h = h

-- the number that a word is, or the word
plain-number : (word : List ℕ) → IsPlain 0 (number_data word)
plain-number word =
    let text : List ℕ = characters word in
    plain-if_null (bytes_eq word (codes "-")) (number_or text (integer_said text))
    (plain-said text (is_numeral_text text && is_of_64_bits (signed_digits_value 10 text)) (signed_digits_value 10 text)
    (λ both. (and_parts (is_numeral_text text) (is_of_64_bits (signed_digits_value 10 text)) both).1))

-- words have no float
float-words : (words : List (List ℕ)) → items_have_float (items_of (map number_data words)) ≡ false
float-words [] = refl
float-words (word ∷ words) =
    both_false (has_float (number_data word)) (items_have_float (items_of (map number_data words))) (plain-number word).no_float (float-words words)

-- and don't nest
depth-words : (words : List (List ℕ)) → items_depth (items_of (map number_data words)) ≤ 0
depth-words [] = omega arith
depth-words (word ∷ words) = omega (arith, (plain-number word).shallow, depth-words words)

-- a comma
unended-comma : (later : Bool) → IsUnended (comma_if later)
unended-comma true = refl
unended-comma false = refl

-- and are in one line
unended-words : (later : Bool) (words : List (List ℕ)) → IsUnended (items_text later (items_of (map number_data words)))
unended-words later [] = refl
unended-words later (word ∷ words) =
    unended-both (comma_if later) (compact_text (number_data word) ++ items_text true (items_of (map number_data words))) (unended-comma later)
    (unended-both (compact_text (number_data word)) (items_text true (items_of (map number_data words))) (plain-number word).one_line (unended-words true words))

-- what a field is
plain-data : (kind : Kind) (lead field : List ℕ) → IsPlain 1 (data_by kind lead field)
plain-data Nothing lead field = record { no_float = refl; shallow = omega arith; one_line = refl }
plain-data Lead lead field = plain-text 1 lead
plain-data Null lead field = record { no_float = refl; shallow = omega arith; one_line = refl }
plain-data True lead field = record { no_float = refl; shallow = omega arith; one_line = refl }
plain-data False lead field = record { no_float = refl; shallow = omega arith; one_line = refl }
plain-data Empty lead field = record { no_float = refl; shallow = omega arith; one_line = refl }
plain-data Number lead field =
    let it : IsPlain 0 (number_data field) = plain-number field in
    record { no_float = it.no_float; shallow = omega (arith, it.shallow); one_line = it.one_line }
plain-data (Numbers separator) lead field = record {
  no_float = float-words (words_between separator field);
  shallow = omega (arith, depth-words (words_between separator field));
  one_line = unended-words false (words_between separator field);
}
plain-data (Text stop) lead field = plain-text 1 (characters field)
plain-data (Through last) lead field = plain-text 1 (characters field)
plain-data Quoted lead field = plain-text 1 (characters (unquoted field))
plain-data Rest lead field = plain-text 1 (characters field)

-- one of three
plain-match : (o : Ordering) (a b c : Members) → ArePlain a → ArePlain b → ArePlain c → ArePlain (match_ordering o a b c)
plain-match Less a b c p q r = p
plain-match Equal a b c p q r = q
plain-match Greater a b c p q r = r

-- a member that is put in
plain-put : (key : List ℕ) (it : Data) (them : Members) → IsPlain 1 it → ArePlain them → ArePlain (put key it them)
plain-put key it no_members h hs = (h, tt)
plain-put key it (member other value them) h hs =
    plain-match (slice_cmp nat_cmp key other) (member key it (member other value them)) (member other it them) (member other value (put key it them))
    (h, hs) (h, hs.1) (hs.0, plain-put key it them h hs.1)

-- one of two
plain-if : (b : Bool) (x y : Members) → ArePlain x → ArePlain y → ArePlain (if b then x else y)
plain-if true x y p q = p
plain-if false x y p q = q

-- the field of a column
plain-field : (column : Column) (text : List ℕ) (found : Members) → ArePlain found → ArePlain (with_field column text found)
plain-field column text found h =
    plain-if (is_told column.kind) (put column.name.now (data_by column.kind column.lead.now (field_in column text)) found) found
    (plain-put column.name.now (data_by column.kind column.lead.now (field_in column text)) found (plain-data column.kind column.lead.now (field_in column text)) h) h

-- those of columns
plain-fields : (columns : List Column) (text : List ℕ) (found : Members) → ArePlain found → ArePlain (with_fields columns text found)
plain-fields [] text found h = h
plain-fields (column ∷ columns) text found h =
    plain-if (stands_first column text) (with_fields columns (behind_column column text) (with_field column text found)) (with_fields columns text found)
    (plain-fields columns (behind_column column text) (with_field column text found) (plain-field column text found h)) (plain-fields columns text found h)

-- those of a line
plain-line : (form : Option (List Column)) (line : List ℕ) (found : Members) → ArePlain found → ArePlain (with_line form line found)
plain-line None line found h = plain-put (codes "line") (string (characters line)) found (plain-text 1 (characters line)) h
plain-line (Some columns) line found h = plain-fields columns line found h

-- the members of a line's object
plain-members : (name : List ℕ) (forms : List (Bor (List Column))) (line : List ℕ) → ArePlain (with_line (form_of forms line) line (of_file name))
plain-members name forms line = plain-line (form_of forms line) line (of_file name) (plain-put (codes "file") (string name) no_members (plain-text 1 name) tt)

-- plain members have no float
float-members : (them : Members) → ArePlain them → members_have_float them ≡ false
float-members no_members h = refl
float-members (member key it them) h = both_false (has_float it) (members_have_float them) h.0.no_float (float-members them h.1)

-- and nest once at most
depth-members : (them : Members) → ArePlain them → members_depth them ≤ 1
depth-members no_members h = omega arith
depth-members (member key it them) h = omega (arith, h.0.shallow, depth-members them h.1)

-- and are in one line
unended-members : (later : Bool) (them : Members) → ArePlain them → IsUnended (members_text later them)
unended-members later no_members h = refl
unended-members later (member key it them) h =
    unended-both (comma_if later) (quoted key ++ 58 ∷ (compact_text it ++ members_text true them)) (unended-comma later)
    (unended-both (quoted key) (58 ∷ (compact_text it ++ members_text true them)) (unended-string key)
    (unended-both (compact_text it) (members_text true them) h.0.one_line (unended-members true them h.1)))

-- a line's object has no float
pub float-line : (name : List ℕ) (forms : List (Bor (List Column))) (line : List ℕ) → has_float (data_of_line name forms line) ≡ false
float-line name forms line = float-members (with_line (form_of forms line) line (of_file name)) (plain-members name forms line)

-- and nests no deeper than what is read may
pub depth-line : (name : List ℕ) (forms : List (Bor (List Column))) (line : List ℕ) → depth (data_of_line name forms line) ≤ max_depth
depth-line name forms line = omega (arith, depth-members (with_line (form_of forms line) line (of_file name)) (plain-members name forms line))

-- and its JSON has no line feed
pub unended-line : (name : List ℕ) (forms : List (Bor (List Column))) (line : List ℕ) → IsUnended (json_of_line name forms line)
unended-line name forms line = unended-members false (with_line (form_of forms line) line (of_file name)) (plain-members name forms line)
