-- Single written cards: those of numbers, and the one that says IMAGE.
use Rattle.std.proofs.Common.{subst, ◌≡◌, inl, ℕ, suc, ◌-◌, ◌^◌, ◌<◌, ◌≤◌, true, false, not, List, [], ◌∷◌, ◌++◌, length, replicate, codes, refl, ap, sym, ◌∙◌, arith, Option, None, Some, length-append}
use Rattle.std.specs.Prelude.{ℤ, pos, negsuc, neg_ℤ, unsigned_abs, option_and_then, unwrap_or}
use Rattle.std.specs.Fmt.{decimal, signed_decimal}
use Rattle.std.specs.Cmp.{both_ways}
use Rattle.std.specs.Option.{option_map}
use Rattle.std.specs.Ordering.{int_eq}
use Rattle.std.proofs.lemmas.Bool.{and_from, cond-true, false≢true}
use Rattle.std.proofs.lemmas.Bool.Decides.{Decides-int_eq}
use Rattle.std.proofs.lemmas.Fmt.{decimal_nonempty, length-decimal-le}
use Rattle.std.proofs.lemmas.List.{length-replicate}
use Rattle.std.proofs.lemmas.List.Elements.{All-cons, All-nil}
use Rattle.std.proofs.lemmas.Slice.Eq.{bytes_eq-Decides}
use Rattle.fits_card.specs.Card.{IsEnd, IsText, has_value, indicator, is_end, is_text_byte, keyword_name}
use Rattle.fits_card.specs.Header.{IsInnerCard}
use Rattle.fits_card.specs.Name.{end_name, is_valueless}
use Rattle.fits_rules.specs.Denotes.{card_says_number, value_says_number}
use Rattle.fits_rules.specs.Reads.{integer_of_value, integer_said, string_said, value_said}
use Rattle.fits_value.specs.Number.{Denotes, IsInteger, IsIntegerOf}
use Rattle.fits_value.specs.Says.{card_says, card_string, says_number}
use Rattle.fits_value.specs.Spelling.{is_digit}
use Rattle.fits_value.specs.Written.{IsWritable, card_of, cards_of, is_writable, justified, value_lead, write_says}
use Rattle.fits_value.specs.declared.value.Value.TheVariants.{Integer, Str}
use Rattle.fits_value.proofs.IntegerLemmas as integers
use Rattle.fits_value.proofs.NumberLemmas.{integer_denotes, one_denoted}
use Rattle.fits_value.proofs.NumberSaysLemmas.{number_says}
use Rattle.fits_value.proofs.PieceLemmas.{card_size}
use Rattle.fits_value.proofs.SaysLemmas.{card_said}
use Rattle.fits_value.proofs.WritableLemmas.{what_can_be_written}
use Rattle.fits_value.proofs.WrittenLemmas.{card_says_written, lead_mark, lead_name, narrower, none_text, spaces_are, text_both, text_more, text_spaces}
use Rattle.fits_image.specs.ImageCards.{written, written_number}
use Rattle.fits_image.proofs.PlainTextLemmas.{IsPlain, decimal_says, plain_card, plain_named, plain_size, plain_string, plain_valued, plain_written}

-- a name that a value may be written under
pub record IsValueName (name : List ℕ) : Type 0 where
  pub size : length name ≡ 8
  pub text : IsText name
  pub valued : is_valueless name ≡ false

-- a card of a header that has this name and a value
pub record IsValueCard (name card : List ℕ) : Type 0 where
  pub inner : IsInnerCard card
  pub named : keyword_name card ≡ name
  pub valued : has_value card ≡ true

-- the card of a number
abbrev pub number_card : List ℕ → ℤ → List ℕ
number_card name number = card_of (value_lead name) (justified (signed_decimal number)) None

-- the card of an image extension
abbrev pub xtension_card : List ℕ
xtension_card = plain_card (codes "XTENSION") (codes "IMAGE")

-- a card of such a name ends no header
value_no_end : (name card : List ℕ) → is_valueless name ≡ false → keyword_name card ≡ name → IsEnd card → ⊥
unfolding is_end is_valueless
value_no_end name card valued named end =
    let is : name ≡ end_name = sym named ∙ (bytes_eq-Decides (keyword_name card) end_name).0 end in
    false≢true (sym valued ∙ ap is_valueless is)

-- a number's text is an integer of that number
decimal_integer : (z : ℤ) → unsigned_abs z < 2 ^ 64 → IsIntegerOf (signed_decimal z) z
decimal_integer (pos n) small = let says = decimal_says n small in record {
  negative = false;
  digits = decimal n;
  spelled = record { sign = []; is_sign = inl refl; are_digits = (says.0, decimal_nonempty n small); parts = refl };
  value = ap pos (sym says.1);
}
decimal_integer (negsuc n) small = let says = decimal_says (suc n) small in record {
  negative = true;
  digits = decimal (suc n);
  spelled = record { sign = codes "-"; is_sign = refl; are_digits = (says.0, decimal_nonempty (suc n) small); parts = refl };
  value = ap (λ k. neg_ℤ (pos k)) (sym says.1);
}

-- so it is an integer
spells_integer : (z : ℤ) → unsigned_abs z < 2 ^ 64 → IsInteger (signed_decimal z)
spells_integer z small = let is = decimal_integer z small in record { negative = is.negative; digits = is.digits; spelled = is.spelled }

-- of 21 bytes at most
decimal_short : (z : ℤ) → unsigned_abs z < 2 ^ 64 → length (signed_decimal z) ≤ 21
decimal_short (pos n) small = omega (arith, length-decimal-le 20 n (omega arith) (omega (arith, small)) small)
decimal_short (negsuc n) small = omega (arith, length-decimal-le 20 (suc n) (omega arith) (omega (arith, small)) small)

-- a digit is text
digit_text : (b : ℕ) → is_digit b ≡ true → is_text_byte b ≡ true
digit_text b h = grind arith

-- and so are digits with a sign
decimal_text : (z : ℤ) → unsigned_abs z < 2 ^ 64 → IsText (signed_decimal z)
decimal_text (pos n) small = narrower is_digit (decimal n) digit_text (decimal_says n small).0
decimal_text (negsuc n) small = text_more 45 (decimal (suc n)) refl (narrower is_digit (decimal (suc n)) digit_text (decimal_says (suc n) small).0)

-- a number's card has 80 bytes
number_size : (name : List ℕ) (z : ℤ) → length name ≡ 8 → unsigned_abs z < 2 ^ 64 → length (number_card name z) ≡ 80
number_size name z size small =
    let text : List ℕ = signed_decimal z in
    let body : List ℕ = justified text in
    card_size (value_lead name ++ body)
    (omega (arith, size, decimal_short z small, length-append (value_lead name) body, length-append name (codes "= "), length-append (replicate (20 - length text) 32) text, length-replicate {A = ℕ} (20 - length text) 32))

-- each number is written to one card
pub number_is_one_card : (name : List ℕ) (z : ℤ) → length name ≡ 8 → unsigned_abs z < 2 ^ 64 → written_number name z ≡ number_card name z ∷ []
unfolding write_says
number_is_one_card name z size small =
    let card = number_card name z in
    let value = Integer (signed_decimal z) in
    let can : IsWritable name value None = record {
      is_value = spells_integer z small;
      is_comment = tt;
      fits = All-cons (λ card. length card ≡ 80) card [] (number_size name z size small) (All-nil (λ card. length card ≡ 80));
    } in
    ap (λ (o : Option (List (List ℕ))). unwrap_or o []) (cond-true (is_writable name value None) (Some (cards_of name value None)) None ((what_can_be_written name value None).1 can))

-- it says the number
number_card_says : (name : List ℕ) (z : ℤ) → IsValueName name → unsigned_abs z < 2 ^ 64 → card_says (number_card name z) ≡ Some (Integer (signed_decimal z), None)
number_card_says name z is small =
    let text : List ℕ = signed_decimal z in
    let before : List ℕ = replicate (20 - length text) 32 in
    let lead : IsText (value_lead name) = text_both name (codes "= ") is.text (text_more 61 (32 ∷ []) refl (text_more 32 [] refl none_text)) in
    card_said (number_card name z) (Integer text) None
    (card_says_written (value_lead name) before text None (Integer text) (omega (arith, is.size, length-append name (codes "= "))) lead (spaces_are (20 - length text))
    (text_both before text (text_spaces (20 - length text)) (decimal_text z small)) (spells_integer z small) refl tt)

-- under its name
number_named : (name : List ℕ) (z : ℤ) → length name ≡ 8 → keyword_name (number_card name z) ≡ name
number_named name z size = lead_name name (codes "= ") (justified (signed_decimal z)) size

-- as a value
number_valued : (name : List ℕ) (z : ℤ) → IsValueName name → has_value (number_card name z) ≡ true
unfolding has_value
number_valued name z is =
    let body : List ℕ = justified (signed_decimal z) in
    and_from _ _ ((bytes_eq-Decides (indicator (number_card name z)) (codes "= ")).1 (lead_mark name (codes "= ") body is.size refl)) (ap (λ (x : List ℕ). not (is_valueless x)) (lead_name name (codes "= ") body is.size) ∙ ap not is.valued)

-- so it is a card of a header, with this name and a value
pub number_card_is : (name : List ℕ) (z : ℤ) → IsValueName name → unsigned_abs z < 2 ^ 64 → IsValueCard name (number_card name z)
number_card_is name z is small = record {
  inner = record { size = number_size name z is.size small; not_end = value_no_end name (number_card name z) is.valued (number_named name z is.size) };
  named = number_named name z is.size;
  valued = number_valued name z is;
}

-- the integer that it says is the number
pub number_card_said : (name : List ℕ) (z : ℤ) → IsValueName name → unsigned_abs z < 2 ^ 64 → integer_said (number_card name z) ≡ Some z
unfolding integer_said value_said
number_card_said name z is small =
    let card = number_card name z in
    let value = cond-true (has_value card) (option_map (λ said. said.0) (card_says card)) None (number_valued name z is) ∙ ap (option_map (λ said. said.0)) (number_card_says name z is small) in
    ap (option_and_then integer_of_value) value ∙ integers.integer_said (signed_decimal z) z (decimal_integer z small)

-- and denotes it
pub number_card_denotes : (name : List ℕ) (z : ℤ) → IsValueName name → unsigned_abs z < 2 ^ 64 → card_says_number (number_card name z) z ≡ true
unfolding card_says_number
number_card_denotes name z is small =
    ap (λ o. unwrap_or (option_map (λ said. value_says_number z said.0) o) false) (number_card_says name z is small)
    ∙ (number_says (signed_decimal z) z).1 (integer_denotes (signed_decimal z) z (decimal_integer z small))

-- and no other number
pub number_card_denotes_alone : (name : List ℕ) (z other : ℤ) → IsValueName name → unsigned_abs z < 2 ^ 64 → card_says_number (number_card name z) other ≡ int_eq z other
unfolding card_says_number
number_card_denotes_alone name z other is small =
    let text : List ℕ = signed_decimal z in
    let denotes = integer_denotes text z (decimal_integer z small) in
    let decides = Decides-int_eq z other in
    ap (λ o. unwrap_or (option_map (λ said. value_says_number other said.0) o) false) (number_card_says name z is small)
    ∙ both_ways (says_number text other) (int_eq z other) (λ t. decides.1 (one_denoted text z other denotes ((number_says text other).0 t))) (λ t. (number_says text other).1 (subst (Denotes text) (decides.0 t) denotes))

-- IMAGE is plain
image_plain : IsPlain (codes "IMAGE")
image_plain = record { letters = refl; some = omega arith; few = omega arith }

-- XTENSION may have a value
xtension_valued : is_valueless (codes "XTENSION") ≡ false
unfolding is_valueless
xtension_valued = refl

-- and is text
xtension_text : IsText (codes "XTENSION")
xtension_text = text_more 88 _ refl (text_more 84 _ refl (text_more 69 _ refl (text_more 78 _ refl (text_more 83 _ refl (text_more 73 _ refl (text_more 79 _ refl (text_more 78 _ refl none_text)))))))

-- IMAGE is written to one card
pub image_is_one_card : written (codes "XTENSION") (Str (codes "IMAGE")) ≡ xtension_card ∷ []
image_is_one_card = ap (λ (o : Option (List (List ℕ))). unwrap_or o []) (plain_written (codes "XTENSION") (codes "IMAGE") refl image_plain)

-- a card of a header
pub xtension_card_is : IsValueCard (codes "XTENSION") xtension_card
xtension_card_is = record {
  inner = record { size = plain_size (codes "XTENSION") (codes "IMAGE") refl image_plain; not_end = value_no_end (codes "XTENSION") xtension_card xtension_valued (plain_named (codes "XTENSION") (codes "IMAGE") refl) };
  named = plain_named (codes "XTENSION") (codes "IMAGE") refl;
  valued = plain_valued (codes "XTENSION") (codes "IMAGE") refl xtension_valued;
}

-- that says so
pub xtension_card_said : string_said xtension_card ≡ Some (codes "IMAGE")
unfolding string_said
xtension_card_said =
    cond-true (has_value xtension_card) (card_string xtension_card) None (xtension_card_is.valued)
    ∙ plain_string (codes "XTENSION") (codes "IMAGE") refl xtension_text image_plain
