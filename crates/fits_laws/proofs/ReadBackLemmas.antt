-- What is written reads back.
use Rattle.std.proofs.Common.{◌⊎◌, ℤ, ◌≡◌, ℕ, ◌<◌, ◌≤◌, ◌+◌, ◌-◌, ◌&&◌, Bool, true, false, eqb, ltb, List, [], ◌∷◌, ◌++◌, length, replicate, codes, Option, Some, refl, sym, ◌∙◌, ap, subst, arith, inl, inr, append_assoc, length-append}
use Rattle.std.specs.Prelude.{IfSome, IsTrue}
use Rattle.std.specs.List.{list_all, suffix_len}
use Rattle.std.specs.Option.{option_map}
use Rattle.std.proofs.Math.Seq.{take-append_seam}
use Rattle.std.proofs.lemmas.List.{length-take-le, append-nil}
use Rattle.std.proofs.lemmas.List.Folds.{list_all-append}
use Rattle.std.proofs.lemmas.Bool.{cases_Bool, and_parts, and_from, cond-true, cond-false, lt-ltb, ltb-true}
use Rattle.fits_card.specs.Card.{IsText, is_text, is_text_byte, has_value}
use Rattle.fits_card.specs.Name.{is_valueless, is_settable}
use Rattle.fits_value.proofs.NormalLemmas.{normal_form-other}
use Rattle.fits_value.proofs.ReadLemmas.{Said}
use Rattle.fits_value.proofs.SaysLemmas.{card_said}
use Rattle.fits_laws.proofs.LongSaysLemmas.{place_told}
use Rattle.fits_value.proofs.InnerLemmas.{settable_valued}
use Rattle.fits_laws.proofs.TextLemmas.{settable_text, text_quoted}
use Rattle.fits_value.proofs.WritableLemmas.{says_parts, what_can_be_written}
use Rattle.fits_value.proofs.TrimLemmas.{trims, suffix_len-back}
use Rattle.fits_value.proofs.WrittenLemmas.{card_says_written, text_both, text_more, text_spaces, spaces_are, narrower, none_text}
use Rattle.fits_laws.proofs.WrittenStringLemmas.{string_reads, first_reads, joined_stops}
use Rattle.fits_value.specs.Number.{IsSignOf, IsSigned, IsInteger, IsPowerOf, IsReal, IsNumber}
use Rattle.fits_value.specs.Spelling.{is_space, is_digit, is_exponent_letter, IsDigits, IsComplexOf, Spells, doubled}
use Rattle.fits_value.specs.Text.{normal_form, trimmed}
use Rattle.fits_value.specs.Value.{CardSays, IsValueOf, kind_of}
use Rattle.fits_value.specs.LongString.{cards_from}
use Rattle.fits_laws.specs.LongStrings.{LongSays}
use Rattle.fits_value.specs.Says.{links_of, continued, first_says, long_says}
use Rattle.fits_value.specs.Written.{justified, card_of, quoted, filled, cards_of_string, cards_of, IsWritableValue, IsWritableComment, write_says}
use Rattle.fits_value.specs.declared.value.Value.{Value}
use Rattle.fits_value.specs.declared.value.Value.TheVariants.{Undefined, Logical, Integer, Real, Complex, Str}

-- a digit is a character of text
digit_text : (b : ℕ) → is_digit b ≡ true → is_text_byte b ≡ true
digit_text b h = grind arith

-- and so is the letter of an exponent
letter_text : (b : ℕ) → is_exponent_letter b ≡ true → is_text_byte b ≡ true
letter_text b h = grind arith

-- signs are text
sign_is_text : (s : List ℕ) (negative : Bool) → IsSignOf s negative → IsText s
unfolding is_text
sign_is_text s true e = subst (λ (x : List ℕ). IsText x) (sym e) refl
sign_is_text s false (inl e) = subst (λ (x : List ℕ). IsText x) (sym e) refl
sign_is_text s false (inr e) = subst (λ (x : List ℕ). IsText x) (sym e) refl

-- signs and digits are text
signed_text : (s digits : List ℕ) (negative : Bool) → IsSigned s negative digits → IsText s
signed_text s digits negative h = subst (λ (x : List ℕ). IsText x) (sym h.parts) (text_both h.sign digits (sign_is_text h.sign negative h.is_sign) (narrower is_digit digits digit_text h.are_digits.0))

-- exponents are text
power_text : (s : List ℕ) (power : ℤ) → IsPowerOf s power → IsText s
power_text [] power h = none_text
power_text (letter ∷ s) power h = text_more letter s (letter_text letter h.0) (signed_text s h.1.digits h.1.negative h.1.spelled)

-- a point and digits are text
point_text : (point back : List ℕ) → IsDigits back → (point ≡ 46 ∷ back) ⊎ ((point ≡ []) × (back ≡ [])) → IsText point
point_text point back h (inl e) = subst (λ (x : List ℕ). IsText x) (sym e) (text_more 46 back refl (narrower is_digit back digit_text h))
point_text point back h (inr e) = subst (λ (x : List ℕ). IsText x) (sym e.0) none_text

-- integers are text
integer_text : (s : List ℕ) → IsInteger s → IsText s
integer_text s h = signed_text s h.digits h.negative h.spelled

-- reals are text
real_text : (s : List ℕ) → IsReal s → IsText s
real_text s h =
    let d = h.spelled in
    let front = text_both d.sign h.front (sign_is_text d.sign h.negative d.is_sign) (narrower is_digit h.front digit_text d.are_front) in
    let pointed = text_both (d.sign ++ h.front) d.point front (point_text d.point h.back d.are_back d.is_point) in
    subst (λ (x : List ℕ). IsText x) (sym d.parts) (text_both (d.sign ++ h.front ++ d.point) d.exponent pointed (power_text d.exponent h.power d.is_power))

-- numbers are text
number_text : (s : List ℕ) → IsNumber s → IsText s
number_text s (inl h) = integer_text s h
number_text s (inr h) = real_text s h

-- ( real , imaginary )
abbrev pair_of_texts : List ℕ → List ℕ → List ℕ
pair_of_texts real imaginary = codes "(" ++ real ++ (codes ", " ++ imaginary) ++ codes ")"

-- parts with nothing between them
joined_parts : (a b c d : List ℕ) → a ++ (b ++ c) ++ d ≡ a ++ [] ++ b ++ c ++ [] ++ d
joined_parts a b c d = simp (append_assoc, append-nil)

-- a pair as it is written
pair_spelled : (real imaginary : List ℕ) → IsNumber real → IsNumber imaginary → IsComplexOf (pair_of_texts real imaginary) real imaginary
pair_spelled real imaginary g h = record {
  before_real = [];
  after_real = [];
  before_imaginary = 32 ∷ [];
  after_imaginary = [];
  spaces_real = (refl, refl);
  spaces_imaginary = (refl, refl);
  is_real = g;
  is_imaginary = h;
  parts = joined_parts (codes "(" ++ real) (codes ", ") imaginary (codes ")");
}

-- it is text
pair_text : (real imaginary : List ℕ) → IsNumber real → IsNumber imaginary → IsText (pair_of_texts real imaginary)
pair_text real imaginary g h =
    let front = text_more 40 real refl (number_text real g) in
    let back = text_more 44 (32 ∷ imaginary) refl (text_more 32 imaginary refl (number_text imaginary h)) in
    text_both (40 ∷ real ++ 44 ∷ 32 ∷ imaginary) (41 ∷ []) (text_both (40 ∷ real) (44 ∷ 32 ∷ imaginary) front back) (text_more 41 [] refl none_text)

-- a value in a card
justified_says : (lead spelling : List ℕ) (comment : Option (List ℕ)) (v : Value) → length lead ≡ 10 → IsText lead → IsText spelling → Spells (kind_of v) spelling → IsValueOf v spelling → IfSome comment IsWritableComment
    → CardSays (card_of lead (justified spelling) comment) v comment
justified_says lead spelling comment v size is_lead texts spelled is_value ok =
    let n = 20 - length spelling in
    card_says_written lead (replicate n 32) spelling comment v size is_lead (spaces_are n) (text_both (replicate n 32) spelling (text_spaces n) texts) spelled is_value ok

-- the only card of a value says what the place says
alone_says : (card : List ℕ) (rest : List (List ℕ)) (v : Value) (c : Option (List ℕ)) → CardSays card v c → continued v c rest ≡ (v, c) → first_says (card ∷ rest) ≡ Some (v, c)
alone_says card rest v c says e =
    let said = card_said card v c says in
    elim (cases_Bool (has_value card)) [
      | inl h ↦ cond-true (has_value card) _ _ h ∙ (ap (option_map (λ (x : Said). continued x.0 x.1 rest)) said ∙ ap Some e)
      | inr h ↦ cond-false (has_value card) _ _ h ∙ said
    ]

-- spaces after a text in normal form, but the null string, say nothing
normal_filled : (text : List ℕ) (k : ℕ) → normal_form text ≡ text → 0 < length text → normal_form (text ++ replicate k 32) ≡ text
normal_filled text k e some =
    let spaces : List ℕ = replicate k 32 in
    let size = length-append text spaces in
    elim (cases_Bool (ltb 0 (length text) && list_all is_space text)) [
      | inl h ↦
          let one : 32 ∷ [] ≡ text = sym (cond-true (ltb 0 (length text) && list_all is_space text) (32 ∷ []) (trimmed text) h) ∙ e in
          let all : list_all is_space (text ++ spaces) ≡ true = list_all-append is_space text spaces ∙ and_from _ _ (and_parts (ltb 0 (length text)) (list_all is_space text) h).1 (spaces_are k) in
          cond-true (ltb 0 (length (text ++ spaces)) && list_all is_space (text ++ spaces)) (32 ∷ []) (trimmed (text ++ spaces)) (and_from _ _ (lt-ltb 0 (length (text ++ spaces)) (omega arith)) all) ∙ one
      | inr h ↦
          let kept : trimmed text ≡ text = sym (cond-false (ltb 0 (length text) && list_all is_space text) (32 ∷ []) (trimmed text) h) ∙ e in
          let t = trims is_space text in
          let parts : length text ≡ length t.front + length t.back = ap length t.whole ∙ length-append t.front t.back in
          let cut : length (trimmed text) ≡ length text - suffix_len is_space text = length-take-le (length text - suffix_len is_space text) text (omega arith) in
          let stops : suffix_len is_space text ≡ 0 = omega (arith, t.size, parts, cut, ap length kept, some) in
          let back : suffix_len is_space (text ++ spaces) ≡ length spaces = suffix_len-back is_space text spaces stops (spaces_are k) in
          sym (normal_form-other (text ++ spaces) (length text) (omega (arith, back, size)) (λ z. omega arith)) ∙ take-append_seam text spaces
    ]

-- a filled string stands for its text
filled_normal : (text : List ℕ) → normal_form text ≡ text → normal_form (filled text) ≡ text
filled_normal [] e = refl
filled_normal (c ∷ s) e =
    let full : filled (c ∷ s) ≡ (c ∷ s) ++ replicate (8 - length (doubled (c ∷ s))) 32 = cond-true (ltb 0 (length (c ∷ s))) _ [] (lt-ltb 0 (length (c ∷ s)) (omega arith)) in
    ap normal_form full ∙ normal_filled (c ∷ s) (8 - length (doubled (c ∷ s))) e (omega arith)

-- and is text
filled_text : (text : List ℕ) → IsText text → IsText (filled text)
filled_text [] h = none_text
filled_text (c ∷ s) h =
    let full : filled (c ∷ s) ≡ (c ∷ s) ++ replicate (8 - length (doubled (c ∷ s))) 32 = cond-true (ltb 0 (length (c ∷ s))) _ [] (lt-ltb 0 (length (c ∷ s)) (omega arith)) in
    subst (λ (x : List ℕ). IsText x) (sym full) (text_both (c ∷ s) _ h (text_spaces (8 - length (doubled (c ∷ s)))))

-- a string that ends in a character that is no space, where it is longer than one
normal_ends : (text : List ℕ) → normal_form text ≡ text → 1 < length text → suffix_len is_space text ≡ 0
normal_ends text e some = elim (cases_Bool (ltb 0 (length text) && list_all is_space text)) [
  | inl h ↦
      let one : 32 ∷ [] ≡ text = sym (cond-true (ltb 0 (length text) && list_all is_space text) (32 ∷ []) (trimmed text) h) ∙ e in
      absurd (let size : 1 ≡ length text = ap length one in omega (arith, size, some))
  | inr h ↦
      let kept : trimmed text ≡ text = sym (cond-false (ltb 0 (length text) && list_all is_space text) (32 ∷ []) (trimmed text) h) ∙ e in
      let t = trims is_space text in
      let parts : length text ≡ length t.front + length t.back = ap length t.whole ∙ length-append t.front t.back in
      let cut : length (trimmed text) ≡ length text - suffix_len is_space text = length-take-le (length text - suffix_len is_space text) text (omega arith) in
      omega (arith, t.size, parts, cut, ap length kept, some)
]

-- quotes at most double a text
doubled_most : (text : List ℕ) → length (doubled text) ≤ length text + length text
doubled_most [] = omega arith
doubled_most (c ∷ s) =
    let more = doubled_most s in
    elim (cases_Bool (eqb c 39)) [
      | inl e ↦ let f : doubled (c ∷ s) ≡ 39 ∷ 39 ∷ doubled s = cond-true (eqb c 39) _ _ e in omega (arith, ap length f, more)
      | inr e ↦ let f : doubled (c ∷ s) ≡ c ∷ doubled s = cond-false (eqb c 39) _ _ e in omega (arith, ap length f, more)
    ]

-- the first ten bytes of a card with a value are text
lead_text : (name : List ℕ) → IsText name → IsText (name ++ codes "= ")
lead_text name h = text_both name (codes "= ") h (text_more 61 _ refl (text_more 32 _ refl none_text))

-- and are ten
lead_size : (name : List ℕ) → length name ≡ 8 → length (name ++ codes "= ") ≡ 10
lead_size name e = omega (arith, length-append name (codes "= "))

-- a text that is longer than 68 bytes between quotes is longer than one byte
long_some : (text : List ℕ) → ltb 68 (length (doubled text)) ≡ true → 1 < length text
long_some text e = let most = doubled_most text in let more : 68 < length (doubled text) = ltb-true 68 (length (doubled text)) e in omega arith

-- what is written reads back, whatever follows
pub written_first : (name : List ℕ) (v : Value) (c : Option (List ℕ)) (rest : List (List ℕ)) → length name ≡ 8 → IsText name → is_valueless name ≡ false → IsWritableValue v → IfSome c IsWritableComment
    → first_says (cards_of name v c ++ rest) ≡ Some (v, c)
written_first name Undefined c rest size is_name valued h ok =
    alone_says _ rest Undefined c (justified_says (name ++ codes "= ") [] c Undefined (lead_size name size) (lead_text name is_name) none_text refl refl ok) refl
written_first name (Logical true) c rest size is_name valued h ok =
    alone_says _ rest (Logical true) c (justified_says (name ++ codes "= ") (84 ∷ []) c (Logical true) (lead_size name size) (lead_text name is_name) (text_more 84 [] refl none_text) (inl refl) refl ok) refl
written_first name (Logical false) c rest size is_name valued h ok =
    alone_says _ rest (Logical false) c (justified_says (name ++ codes "= ") (70 ∷ []) c (Logical false) (lead_size name size) (lead_text name is_name) (text_more 70 [] refl none_text) (inr refl) refl ok) refl
written_first name (Integer text) c rest size is_name valued h ok =
    alone_says _ rest (Integer text) c (justified_says (name ++ codes "= ") text c (Integer text) (lead_size name size) (lead_text name is_name) (integer_text text h) h refl ok) refl
written_first name (Real text) c rest size is_name valued h ok =
    alone_says _ rest (Real text) c (justified_says (name ++ codes "= ") text c (Real text) (lead_size name size) (lead_text name is_name) (real_text text h) h refl ok) refl
written_first name (Complex real imaginary) c rest size is_name valued h ok =
    let spelled = pair_spelled real imaginary h.0 h.1 in
    alone_says _ rest (Complex real imaginary) c
    (justified_says (name ++ codes "= ") (pair_of_texts real imaginary) c (Complex real imaginary) (lead_size name size) (lead_text name is_name) (pair_text real imaginary h.0 h.1) (real, imaginary, spelled) spelled ok) refl
written_first name (Str text) c rest size is_name valued h ok =
    let lead : List ℕ = name ++ codes "= " in
    let short : List (List ℕ) = card_of lead (quoted (filled text)) c ∷ [] in
    let long : List (List ℕ) = cards_of_string lead (length text) text c in
    let over = ltb 68 (length (doubled text)) in
    elim (cases_Bool over) [
      | inr e ↦
          let says = card_says_written lead [] (quoted (filled text)) c (Str text) (lead_size name size) (lead_text name is_name) refl (text_quoted (filled text) (filled_text text h.0)) (filled text, refl) (filled text, refl, sym (filled_normal text h.1)) ok in
          let same : continued (Str text) c rest ≡ (Str text, c) = ap (λ (x : List ℕ × Option (List ℕ)). (Str (normal_form x.0), x.1)) (joined_stops text c (links_of rest) h.2) ∙ ap (λ (x : List ℕ). (Str x, c)) h.1 in
          ap (λ (x : List (List ℕ)). first_says (x ++ rest)) (cond-false over long short e) ∙ alone_says _ rest (Str text) c says same
      | inl e ↦
          let stops = normal_ends text h.1 (long_some text e) in
          ap (λ (x : List (List ℕ)). first_says (x ++ rest)) (cond-true over long short e)
          ∙ first_reads name text c (long ++ rest) size valued h.1 (string_reads (length text) lead text c rest (lead_size name size) (lead_text name is_name) h.0 stops h.2 ok)
    ]

-- at its place
pub written_said : (cards written rest : List (List ℕ)) (place : ℕ) (name : List ℕ) (value : Value) (comment : Option (List ℕ)) → length name ≡ 8 → IsTrue (is_settable name) → write_says name value comment ≡ Some written
    → cards_from cards place ≡ written ++ rest → long_says cards place ≡ Some (value, comment)
unfolding long_says
written_said cards written rest place name value comment size settable e at =
    let parts = says_parts name value comment written e in
    let w = (what_can_be_written name value comment).0 parts.0 in
    ap first_says (at ∙ ap (λ (x : List (List ℕ)). x ++ rest) (sym parts.1))
    ∙ written_first name value comment rest size (settable_text name settable) (settable_valued name settable) w.is_value w.is_comment

-- and by the relation
pub written_told : (cards written rest : List (List ℕ)) (place : ℕ) (name : List ℕ) (value : Value) (comment : Option (List ℕ)) → length name ≡ 8 → IsTrue (is_settable name) → write_says name value comment ≡ Some written
    → cards_from cards place ≡ written ++ rest → LongSays cards place value comment
written_told cards written rest place name value comment size settable e at = place_told cards place value comment (written_said cards written rest place name value comment size settable e at)
