-- Plain texts, letters and digits alone, and their cards.
use Rattle.std.proofs.Common.{◌≡◌, ℕ, zero, suc, ◌+◌, ◌-◌, ◌%◌, ◌^◌, ◌<◌, ◌≤◌, true, false, eqb, ltb, not, List, [], ◌∷◌, ◌++◌, length, get_or, take, replicate, codes, refl, ap, sym, ◌∙◌, subst, arith, All, Option, None, Some, length-append}
use Rattle.std.specs.Fmt.{decimal}
use Rattle.std.specs.Option.{option_map}
use Rattle.std.specs.List.{list_all, prefix_len, suffix_len}
use Rattle.std.proofs.lemmas.Bool.{and_from, and_parts, cond-false, cond-true, false≢true, lt-ltb, ltb-true, false_from_ne_true}
use Rattle.std.proofs.lemmas.Fmt.{decimal_by_steps, decimal_nonempty, length-decimal-le}
use Rattle.std.proofs.lemmas.List.{length-replicate, reverse-append, take_more}
use Rattle.std.proofs.lemmas.List.Elements.{All-cons, All-nil}
use Rattle.std.proofs.lemmas.List.Folds.{list_all-append}
use Rattle.std.proofs.Math.Seq.{take-append_seam, take-length}
use Rattle.std.proofs.lemmas.Slice.Eq.{bytes_eq-Decides}
use Rattle.fits_card.specs.Card.{IsText, card_of_text, has_value, indicator, is_text_byte, keyword_name}
use Rattle.fits_card.specs.Name.{is_valueless}
use Rattle.fits_sum.specs.ChecksumText.{is_letter_or_digit}
use Rattle.fits_value.specs.LongString.{EndsInAmpersand}
use Rattle.fits_value.specs.Number.{value_of}
use Rattle.fits_value.specs.Says.{card_says, card_string, ends_in_ampersand, said_string}
use Rattle.fits_value.specs.Text.{normal_form}
use Rattle.fits_value.specs.Spelling.{doubled, is_digit, is_space}
use Rattle.fits_value.specs.Written.{IsWritable, card_of, cards_of, filled, is_long, is_writable, quoted, value_field, value_lead, write_says}
use Rattle.fits_value.specs.declared.value.Value.TheVariants.{Str}
use Rattle.fits_value.proofs.AmpersandLemmas.{ampersand_told}
use Rattle.fits_value.proofs.DigitLemmas.{value_append}
use Rattle.fits_value.proofs.NormalLemmas.{normal_form-other}
use Rattle.fits_value.proofs.PieceLemmas.{card_size, doubled_append}
use Rattle.fits_value.proofs.QuoteLemmas.{doubled-other}
use Rattle.fits_value.proofs.SaysLemmas.{card_said}
use Rattle.fits_value.proofs.TrimLemmas.{suffix_len-back}
use Rattle.fits_value.proofs.WritableLemmas.{what_can_be_written}
use Rattle.fits_value.proofs.WrittenLemmas.{card_says_written, lead_mark, lead_name, narrower, none_text, spaces_are, text_both, text_more, text_spaces}
use Rattle.fits_value.proofs.WrittenStringLemmas.{normal_stops}

-- letters and digits, of which one string holds all
pub record IsPlain (text : List ℕ) : Type 0 where
  pub letters : list_all is_letter_or_digit text ≡ true
  pub some : 0 < length text
  pub few : length text ≤ 16

-- the card of a plain text
abbrev pub plain_card : List ℕ → List ℕ → List ℕ
plain_card name text = card_of_text (name ++ codes "= " ++ (codes "'" ++ (text ++ replicate (8 - length text) 32) ++ codes "'"))

-- a letter is text
letter_text : (b : ℕ) → is_letter_or_digit b ≡ true → is_text_byte b ≡ true
letter_text b h = grind arith

-- and no space
pub letter_no_space : (b : ℕ) → is_letter_or_digit b ≡ true → is_space b ≡ false
letter_no_space b h = grind arith

-- and no quote
letter_no_quote : (b : ℕ) → is_letter_or_digit b ≡ true → eqb b 39 ≡ false
letter_no_quote b h = grind arith

-- plain text has a last letter
record Ends (text : List ℕ) : Type 0 where
  pub front : List ℕ
  pub last : ℕ
  pub parts : text ≡ front ++ last ∷ []
  pub letter : is_letter_or_digit last ≡ true

-- what a text ends in passes where all do
last_passes : (front : List ℕ) (last : ℕ) → list_all is_letter_or_digit (front ++ last ∷ []) ≡ true → is_letter_or_digit last ≡ true
last_passes front last e =
    let both = and_parts (list_all is_letter_or_digit front) (list_all is_letter_or_digit (last ∷ [])) (sym (list_all-append is_letter_or_digit front (last ∷ [])) ∙ e) in
    (and_parts (is_letter_or_digit last) true both.1).0

-- it is a letter
ends : (text : List ℕ) → IsPlain text → Ends text
ends text p =
    let n = length text - 1 in
    let parts : text ≡ take n text ++ get_or text n 0 ∷ [] = sym (ap (λ k. take k text) (next text (p.some)) ∙ take-length text) ∙ take_more text n 0 (omega (arith, p.some)) in
    record { front = take n text; last = get_or text n 0; parts = parts; letter = last_passes (take n text) (get_or text n 0) (ap (list_all is_letter_or_digit) (sym parts) ∙ p.letters) }
  where
    next : (xs : List ℕ) → 0 < length xs → length xs - 1 + 1 ≡ length xs
    next xs some = omega arith

-- so plain text ends in no space
plain_stops : (text : List ℕ) → IsPlain text → suffix_len is_space text ≡ 0
plain_stops text p =
    let e = ends text p in
    ap (suffix_len is_space) e.parts ∙ (ap (prefix_len is_space) (reverse-append e.front (e.last ∷ [])) ∙ cond-false (is_space e.last) _ 0 (letter_no_space e.last e.letter))

-- and in no ampersand
pub plain_closed : (text : List ℕ) → IsPlain text → EndsInAmpersand text → ⊥
plain_closed text p (front, parts) = false≢true (last_passes front 38 (ap (list_all is_letter_or_digit) (sym parts) ∙ p.letters))

-- nothing in it is doubled
letters_doubled : (text : List ℕ) → list_all is_letter_or_digit text ≡ true → doubled text ≡ text
letters_doubled [] e = refl
letters_doubled (c ∷ cs) e = let both = and_parts (is_letter_or_digit c) (list_all is_letter_or_digit cs) e in doubled-other c cs (letter_no_quote c both.0) ∙ ap (λ xs. c ∷ xs) (letters_doubled cs both.1)

-- nor in spaces
spaces_doubled : (n : ℕ) → doubled (replicate n 32) ≡ replicate n 32
spaces_doubled zero = refl
spaces_doubled (suc n) = ap (λ xs. 32 ∷ xs) (spaces_doubled n)

-- so its field is the text with spaces, between quotes
plain_field : (text : List ℕ) → IsPlain text → value_field (Str text) ≡ codes "'" ++ (text ++ replicate (8 - length text) 32) ++ codes "'"
plain_field text p =
    let same = letters_doubled text p.letters in
    let full : filled text ≡ text ++ replicate (8 - length text) 32 = cond-true (ltb 0 (length text)) (text ++ replicate (8 - length (doubled text)) 32) [] (lt-ltb 0 (length text) p.some) ∙ ap (λ (xs : List ℕ). text ++ replicate (8 - length xs) 32) same in
    let inner : doubled (text ++ replicate (8 - length text) 32) ≡ text ++ replicate (8 - length text) 32 =
    doubled_append text (replicate (8 - length text) 32) ∙ (ap (λ xs. xs ++ doubled (replicate (8 - length text) 32)) same ∙ ap (λ xs. text ++ xs) (spaces_doubled (8 - length text))) in
    ap quoted full ∙ ap (λ (xs : List ℕ). codes "'" ++ xs ++ codes "'") inner

-- its card
plain_is : (name text : List ℕ) → IsPlain text → cards_of name (Str text) None ≡ plain_card name text ∷ []
plain_is name text p =
    let short : is_long (Str text) ≡ false = ltb-false_of 68 (length (doubled text)) (omega (arith, p.few, ap length (letters_doubled text p.letters))) in
    cond-false (is_long (Str text)) _ (card_of (value_lead name) (value_field (Str text)) None ∷ []) short
    ∙ ap (λ (field : List ℕ). card_of_text (name ++ codes "= " ++ field) ∷ []) (plain_field text p)
  where
    ltb-false_of : (m n : ℕ) → n ≤ m → ltb m n ≡ false
    ltb-false_of m n le = false_from_ne_true (ltb m n) (λ e. let lt = ltb-true m n e in absurd (omega arith))

-- and it has 80 bytes
pub plain_size : (name text : List ℕ) → length name ≡ 8 → IsPlain text → length (plain_card name text) ≡ 80
plain_size name text size p =
    card_size (name ++ codes "= " ++ (codes "'" ++ (text ++ replicate (8 - length text) 32) ++ codes "'"))
    (omega (arith, size, p.few, length-append (name ++ codes "= ") (codes "'" ++ (text ++ replicate (8 - length text) 32) ++ codes "'"), length-append name (codes "= "), length-append (codes "'" ++ (text ++ replicate (8 - length text) 32)) (codes "'"), length-append text (replicate (8 - length text) 32), length-replicate {A = ℕ} (8 - length text) 32))

-- plain text is written to one card
pub plain_written : (name text : List ℕ) → length name ≡ 8 → IsPlain text → write_says name (Str text) None ≡ Some (plain_card name text ∷ [])
unfolding write_says
plain_written name text size p =
    let cards = plain_is name text p in
    let can : IsWritable name (Str text) None = record {
      is_value = (narrower is_letter_or_digit text letter_text p.letters, normal_stops text (plain_stops text p), plain_closed text p);
      is_comment = tt;
      fits = subst (λ (x : List (List ℕ)). All (λ card. length card ≡ 80) x) (sym cards) (All-cons (λ card. length card ≡ 80) (plain_card name text) [] (plain_size name text size p) (All-nil (λ card. length card ≡ 80)));
    } in
    cond-true (is_writable name (Str text) None) (Some (cards_of name (Str text) None)) None ((what_can_be_written name (Str text) None).1 can) ∙ ap Some cards

-- decimal digits are digits, and have their number's value
pub decimal_says : (n : ℕ) → n < 2 ^ 64 → (list_all is_digit (decimal n) ≡ true) × (value_of (decimal n) ≡ n)
decimal_says n small = decimal_by_steps (λ m ds. (list_all is_digit ds ≡ true) × (value_of ds ≡ m))
    (λ m l. (and_from _ _ (digit_is m l) refl, omega arith))
    (λ m ds l h. (
      list_all-append is_digit ds ((48 + m % 10) ∷ []) ∙ and_from _ _ h.0 (and_from _ _ (digit_is (m % 10) (omega arith)) refl),
      value_append ds ((48 + m % 10) ∷ []) ∙ omega (arith, h.1),
    )) n small
  where
    digit_is : (d : ℕ) → d < 10 → is_digit (48 + d) ≡ true
    digit_is d l = grind arith

-- digits are letters or digits
digits_letters : (text : List ℕ) → list_all is_digit text ≡ true → list_all is_letter_or_digit text ≡ true
digits_letters [] e = refl
digits_letters (c ∷ cs) e = let both = and_parts (is_digit c) (list_all is_digit cs) e in and_from _ _ (digit_letter c both.0) (digits_letters cs both.1)
  where
    digit_letter : (b : ℕ) → is_digit b ≡ true → is_letter_or_digit b ≡ true
    digit_letter b h = grind arith

-- so the text of a sum is plain
pub decimal_plain : (n : ℕ) → n < 2 ^ 32 → IsPlain (decimal n)
decimal_plain n small = record {
  letters = digits_letters (decimal n) (decimal_says n (omega arith)).0;
  some = decimal_nonempty n (omega arith);
  few = omega (arith, length-decimal-le 10 n (omega arith) (omega arith) (omega arith));
}

-- spaces after a plain text say nothing
plain_filled : (text : List ℕ) (n : ℕ) → IsPlain text → normal_form (text ++ replicate n 32) ≡ text
plain_filled text n p =
    let spaces : List ℕ = replicate n 32 in
    let back : suffix_len is_space (text ++ spaces) ≡ length spaces = suffix_len-back is_space text spaces (plain_stops text p) (spaces_are n) in
    sym (normal_form-other (text ++ spaces) (length text) (omega (arith, back, length-append text spaces)) (λ z. omega (arith, z, p.some))) ∙ take-append_seam text spaces

-- the card of a plain text says it
pub plain_says : (name text : List ℕ) → length name ≡ 8 → IsText name → IsPlain text → card_says (plain_card name text) ≡ Some (Str text, None)
plain_says name text size is_name p =
    let body : List ℕ = text ++ replicate (8 - length text) 32 in
    let quoted_body : List ℕ = codes "'" ++ body ++ codes "'" in
    let same : doubled body ≡ body = doubled_append text (replicate (8 - length text) 32) ∙ (ap (λ xs. xs ++ doubled (replicate (8 - length text) 32)) (letters_doubled text p.letters) ∙ ap (λ xs. text ++ xs) (spaces_doubled (8 - length text))) in
    let spelled : quoted_body ≡ codes "'" ++ doubled body ++ codes "'" = ap (λ (xs : List ℕ). codes "'" ++ xs ++ codes "'") (sym same) in
    let is_body : IsText body = text_both text (replicate (8 - length text) 32) (narrower is_letter_or_digit text letter_text p.letters) (text_spaces (8 - length text)) in
    let is_quoted : IsText quoted_body = text_more 39 (body ++ 39 ∷ []) refl (text_both body (39 ∷ []) is_body (text_more 39 [] refl none_text)) in
    let lead : IsText (name ++ codes "= ") = text_both name (codes "= ") is_name (text_more 61 (32 ∷ []) refl (text_more 32 [] refl none_text)) in
    card_said (plain_card name text) (Str text) None
    (card_says_written (name ++ codes "= ") [] quoted_body None (Str text) (omega (arith, size, length-append name (codes "= "))) lead refl is_quoted (body, spelled) (body, spelled, sym (plain_filled text (8 - length text) p)) tt)

-- so it is its string
pub plain_string : (name text : List ℕ) → length name ≡ 8 → IsText name → IsPlain text → card_string (plain_card name text) ≡ Some text
unfolding card_string
plain_string name text size is_name p = ap (λ said. option_map (λ (s : List ℕ × Option (List ℕ)). s.0) (said_string said)) (plain_says name text size is_name p)

-- it has its name
pub plain_named : (name text : List ℕ) → length name ≡ 8 → keyword_name (plain_card name text) ≡ name
plain_named name text size = lead_name name (codes "= ") (codes "'" ++ (text ++ replicate (8 - length text) 32) ++ codes "'") size

-- and a value
pub plain_valued : (name text : List ℕ) → length name ≡ 8 → is_valueless name ≡ false → has_value (plain_card name text) ≡ true
unfolding has_value
plain_valued name text size valued =
    let body : List ℕ = codes "'" ++ (text ++ replicate (8 - length text) 32) ++ codes "'" in
    and_from _ _ ((bytes_eq-Decides (indicator (plain_card name text)) (codes "= ")).1 (lead_mark name (codes "= ") body size refl)) (ap (λ (x : List ℕ). not (is_valueless x)) (lead_name name (codes "= ") body size) ∙ ap not valued)

-- its text goes on nowhere
pub plain_ends : (text : List ℕ) → IsPlain text → ends_in_ampersand text ≡ false
plain_ends text p = false_from_ne_true (ends_in_ampersand text) (λ e. plain_closed text p (ampersand_told text e))
