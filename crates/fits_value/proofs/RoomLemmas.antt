-- How far values go on their cards, and the room for comments.
use Rattle.std.proofs.Common.{◌≡◌, ℕ, zero, suc, ◌<◌, ◌≤◌, ◌+◌, ◌-◌, ◌&&◌, Bool, true, false, cond, eqb, leb, ltb, max, List, [], ◌∷◌, ◌++◌, length, take, drop, replicate, Option, None, Some, refl, sym, ◌∙◌, ap, arith, inl, inr, length-append}
use Rattle.std.proofs.lemmas.List.{length-replicate}
use Rattle.std.proofs.lemmas.Bool.{cases_Bool, cases_lt, cond-true, cond-false, eq-eqb, eqb-true, leb-true, leb-false, le-leb, false_from_ne_true, lt-ltb, le-ltb, lt-leb}
use Rattle.fits_card.specs.Card.{card_of_text}
use Rattle.fits_value.proofs.PieceLemmas.{card_size, quoted_size, doubled_append, doubled_least, left_less}
use Rattle.fits_value.proofs.WriteLemmas.{first_fits, piece_size}
use Rattle.fits_value.specs.Spelling.{doubled}
use Rattle.fits_value.specs.Unwritable.{last_piece, last_field, value_end, comment_room}
use Rattle.fits_value.specs.Written.{fitting, justified, quoted, filled, value_field, value_lead, commented, card_of, continue_lead, cards_of_string, is_long, characters_of, cards_of, all_fit}
use Rattle.fits_value.specs.declared.value.Value.{Value}
use Rattle.fits_value.specs.declared.value.Value.TheVariants.{Complex, Str}

-- so many cards at most are enough
last_enough : (m n : ℕ) (text : List ℕ) → length text ≤ m → length text ≤ n → last_piece m text ≡ last_piece n text
last_enough zero zero text g h = refl
last_enough zero (suc n) [] g h = refl
last_enough zero (suc n) (c ∷ s) g h = absurd (omega arith)
last_enough (suc m) zero [] g h = refl
last_enough (suc m) zero (c ∷ s) g h = absurd (omega arith)
last_enough (suc m) (suc n) text g h =
    let k = fitting 67 text in
    ap (λ (x : List ℕ). cond (leb (length (doubled text)) 68) text x) (last_enough m n (drop k text) (left_less m text g) (left_less n text h))

-- what 68 bytes hold is the last piece
pub last_end : (text : List ℕ) → length (doubled text) ≤ 68 → last_piece (length text) text ≡ text
last_end [] h = refl
last_end (c ∷ s) h = elim (cases_Bool (leb (length (doubled (c ∷ s))) 68)) [
  | inl e ↦ cond-true (leb (length (doubled (c ∷ s))) 68) _ _ e
  | inr e ↦ absurd (let f : 68 < length (doubled (c ∷ s)) = leb-false _ 68 e in omega arith)
]

-- else it comes after the first
pub last_more : (text : List ℕ) → 68 < length (doubled text) → last_piece (length text) text ≡ last_piece (length (drop (fitting 67 text) text)) (drop (fitting 67 text) text)
last_more [] h = absurd (omega arith)
last_more (c ∷ s) h = elim (cases_Bool (leb (length (doubled (c ∷ s))) 68)) [
  | inl e ↦ absurd (let f : length (doubled (c ∷ s)) ≤ 68 = leb-true _ 68 e in omega arith)
  | inr e ↦
      let k = fitting 67 (c ∷ s) in
      cond-false (leb (length (doubled (c ∷ s))) 68) _ _ e
      ∙ last_enough (length s) (length (drop k (c ∷ s))) (drop k (c ∷ s)) (left_less (length s) (c ∷ s) (omega arith)) (omega arith)
]

-- the loop's step over a piece
pub last_step : (rest back : List ℕ) (k left whole : ℕ) → k ≡ fitting 67 rest → back ≡ drop k rest → 68 < left → left ≡ length (doubled rest)
    → length (doubled (last_piece (length rest) rest)) ≡ whole → length (doubled (last_piece (length back) back)) ≡ whole
last_step rest back k left whole e f h i inv =
    rw (f, e) (ap (λ (x : List ℕ). length (doubled x)) (sym (last_more rest (omega (arith, h, i)))) ∙ inv)

-- and its end
pub last_stop : (rest : List ℕ) (left whole : ℕ) → left ≤ 68 → left ≡ length (doubled rest) → length (doubled (last_piece (length rest) rest)) ≡ whole → left ≡ whole
last_stop rest left whole h i inv = i ∙ (ap (λ (x : List ℕ). length (doubled x)) (sym (last_end rest (omega (arith, h, i)))) ∙ inv)

-- how far a number goes, by its size
pub justified_size : (spelling : List ℕ) → length (justified spelling) ≡ 20 - length spelling + length spelling
justified_size s = omega (arith, length-append (replicate (20 - length s) 32) s, length-replicate {A = ℕ} (20 - length s) 32)

-- how far a complex number does
pub pair_goes : (real imaginary : List ℕ) (size : ℕ) → size ≡ length real + length imaginary + 4 → value_end (Complex real imaginary) ≡ 10 + (20 - size + size)
unfolding value_end
pair_goes real imaginary size e =
    let text : List ℕ = (40 ∷ real) ++ ((44 ∷ 32 ∷ imaginary)) ++ (41 ∷ []) in
    let len : length text ≡ size = omega (arith, e, length-append ((40 ∷ real) ++ (44 ∷ 32 ∷ imaginary)) (41 ∷ []), length-append (40 ∷ real) (44 ∷ 32 ∷ imaginary)) in
    ap (λ (n : ℕ). 10 + n) (justified_size text ∙ ap (λ (n : ℕ). 20 - n + n) len)

-- spaces are doubled as they are
doubled_spaces : (n : ℕ) → length (doubled (replicate n 32)) ≡ n
doubled_spaces zero = refl
doubled_spaces (suc n) = omega (arith, doubled_spaces n)

-- a string's field
filled_size : (text : List ℕ) (len : ℕ) → len ≡ length (doubled text) → 0 < len → length (quoted (filled text)) ≡ 2 + max len 8
filled_size [] len e h = absurd (omega (arith, e))
filled_size (c ∷ s) len e h =
    let text : List ℕ = c ∷ s in
    let fill : List ℕ = replicate (8 - length (doubled text)) 32 in
    let is : filled text ≡ text ++ fill = cond-true (ltb 0 (length text)) (text ++ fill) [] (lt-ltb 0 (length text) (omega arith)) in
    let size : length (doubled (text ++ fill)) ≡ len + (8 - len) = ap length (doubled_append text fill) ∙ omega (arith, length-append (doubled text) (doubled fill), doubled_spaces (8 - length (doubled text)), e) in
    omega (arith, ap (λ (x : List ℕ). length (quoted x)) is, quoted_size (text ++ fill), size)

-- how far a string goes that one card holds
pub string_goes : (text : List ℕ) (len : ℕ) → len ≡ length (doubled text) → 0 < len → len ≤ 68 → value_end (Str text) ≡ 12 + max len 8
unfolding value_end
string_goes text len e some most =
    let short : ltb 68 (length (doubled text)) ≡ false = le-ltb 68 (length (doubled text)) (omega (arith, e, most)) in
    let field : last_field (Str text) ≡ quoted (filled text) = cond-false (ltb 68 (length (doubled text))) _ _ short in
    omega (arith, ap length field, filled_size text len e some)

-- the null string
pub null_goes : (text : List ℕ) (len : ℕ) → len ≡ length (doubled text) → len ≡ 0 → value_end (Str text) ≡ 12
unfolding value_end
null_goes [] len e h = refl
null_goes (c ∷ s) len e h = absurd (omega (arith, e, h, doubled_least (c ∷ s)))

-- how many bytes a card would need
unfoldable pub line_size : ℕ → Option (List ℕ) → ℕ
line_size before None = before
line_size before (Some comment) = before + (1 + (30 - before)) + (1 + length comment)

-- not as long as a card
not_80 : (n : ℕ) → 80 < n → eqb n 80 ≡ false
not_80 n h = false_from_ne_true (eqb n 80) (λ e. let f : n ≡ 80 = eqb-true n 80 e in absurd (omega (arith, f, h)))

-- a test and one that holds
and_true : (b : Bool) → b && true ≡ b
and_true true = refl
and_true false = refl

-- a comment fits its room
pub same_fit : (before size : ℕ) → before ≤ 78 → leb size (78 - max 30 before) ≡ leb (before + (1 + (30 - before)) + (1 + size)) 80
same_fit before size h = elim (cases_lt (78 - max 30 before) size) [
  | inl g ↦ lt-leb size (78 - max 30 before) g ∙ sym (lt-leb (before + (1 + (30 - before)) + (1 + size)) 80 (omega arith))
  | inr g ↦ le-leb size (78 - max 30 before) g ∙ sym (le-leb (before + (1 + (30 - before)) + (1 + size)) 80 (omega arith))
]

-- a text fits a card where it has no more than 80 bytes
text_fits : (text : List ℕ) → eqb (length (card_of_text text)) 80 ≡ leb (length text) 80
text_fits text = elim (cases_lt 80 (length text)) [
  | inl h ↦
      let size : length (card_of_text text) ≡ length text = omega (arith, length-append text (replicate (80 - length text) 32), length-replicate {A = ℕ} (80 - length text) 32) in
      ap (λ (n : ℕ). eqb n 80) size ∙ (not_80 (length text) h ∙ sym (lt-leb (length text) 80 h))
  | inr h ↦ eq-eqb (length (card_of_text text)) 80 (card_size text h) ∙ sym (le-leb (length text) 80 h)
]

-- the size of a line with its comment
commented_size : (line : List ℕ) (comment : Option (List ℕ)) → length (commented line comment) ≡ line_size (length line) comment
unfolding line_size
commented_size line None = refl
commented_size line (Some comment) =
    let gap = 1 + (30 - length line) in
    omega (arith, length-append (line ++ replicate gap 32) (47 ∷ comment), length-append line (replicate gap 32), length-replicate {A = ℕ} gap 32)

-- a card fits where its line does
card_fits : (lead value : List ℕ) (comment : Option (List ℕ)) → length lead ≡ 10 → eqb (length (card_of lead value comment)) 80 ≡ leb (line_size (10 + length value) comment) 80
card_fits lead value comment h =
    let size : length (lead ++ value) ≡ 10 + length value = omega (arith, h, length-append lead value) in
    text_fits (commented (lead ++ value) comment) ∙ ap (λ (n : ℕ). leb n 80) (commented_size (lead ++ value) comment ∙ ap (λ (n : ℕ). line_size n comment) size)

-- one card
one_card_fits : (lead value : List ℕ) (comment : Option (List ℕ)) → length lead ≡ 10 → all_fit (card_of lead value comment ∷ []) ≡ leb (line_size (10 + length value) comment) 80
one_card_fits lead value comment h = and_true (eqb (length (card_of lead value comment)) 80) ∙ card_fits lead value comment h

-- a string over cards fits where its last piece does
string_fits : (more : ℕ) (lead text : List ℕ) (comment : Option (List ℕ)) → length lead ≡ 10
    → all_fit (cards_of_string lead more text comment) ≡ leb (line_size (10 + length (quoted (last_piece more text))) comment) 80
string_fits zero lead text comment h = one_card_fits lead (quoted text) comment h
string_fits (suc more) lead text comment h = elim (cases_Bool (leb (length (doubled text)) 68)) [
  | inl e ↦
      ap all_fit (cond-true (leb (length (doubled text)) 68) _ _ e)
      ∙ (one_card_fits lead (quoted text) comment h
      ∙ ap (λ (x : List ℕ). leb (line_size (10 + length (quoted x)) comment) 80) (sym (cond-true (leb (length (doubled text)) 68) text _ e)))
  | inr e ↦
      let k = fitting 67 text in
      ap all_fit (cond-false (leb (length (doubled text)) 68) _ _ e)
      ∙ (first_fits (card_of lead (quoted (take k text ++ 38 ∷ [])) None) (cards_of_string continue_lead more (drop k text) comment) (piece_size lead text h)
      ∙ (string_fits more continue_lead (drop k text) comment refl
      ∙ ap (λ (x : List ℕ). leb (line_size (10 + length (quoted x)) comment) 80) (sym (cond-false (leb (length (doubled text)) 68) text _ e))))
]

-- the cards of a value fit where its last line does
pub cards_fit : (name : List ℕ) (value : Value) (comment : Option (List ℕ)) → length name ≡ 8 → all_fit (cards_of name value comment) ≡ leb (line_size (value_end value) comment) 80
unfolding value_end
cards_fit name value comment h =
    let lead : length (value_lead name) ≡ 10 = omega (arith, h, length-append name (61 ∷ 32 ∷ [])) in
    elim (cases_Bool (is_long value)) [
      | inl e ↦
          ap all_fit (cond-true (is_long value) _ _ e)
          ∙ (string_fits (length (characters_of value)) (value_lead name) (characters_of value) comment lead
          ∙ ap (λ (x : List ℕ). leb (line_size (10 + length x) comment) 80) (sym (cond-true (is_long value) _ (value_field value) e)))
      | inr e ↦
          ap all_fit (cond-false (is_long value) _ _ e)
          ∙ (one_card_fits (value_lead name) (value_field value) comment lead
          ∙ ap (λ (x : List ℕ). leb (line_size (10 + length x) comment) 80) (sym (cond-false (is_long value) _ (value_field value) e)))
    ]

-- which comments fit
pub comment_fits : (name : List ℕ) (value : Value) (comment : List ℕ) → length name ≡ 8 → value_end value ≤ 78 → all_fit (cards_of name value (Some comment)) ≡ leb (length comment) (comment_room (value_end value))
unfolding line_size
comment_fits name value comment h g = cards_fit name value (Some comment) h ∙ sym (same_fit (value_end value) (length comment) g)

-- none does
pub no_comment_fits : (name : List ℕ) (value : Value) (comment : List ℕ) → length name ≡ 8 → 78 < value_end value → all_fit (cards_of name value (Some comment)) ≡ false
unfolding line_size
no_comment_fits name value comment h g = cards_fit name value (Some comment) h ∙ lt-leb (line_size (value_end value) (Some comment)) 80 (omega arith)

-- whether a value fits alone
pub value_fits : (name : List ℕ) (value : Value) → length name ≡ 8 → all_fit (cards_of name value None) ≡ leb (value_end value) 80
unfolding line_size
value_fits name value h = cards_fit name value None h
