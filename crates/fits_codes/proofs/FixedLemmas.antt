-- Where a value stands in its card, by its field and by its places.
use Rattle.std.proofs.Common.{◌≡◌, ℕ, ◌+◌, ◌-◌, ◌≤◌, Bool, true, false, ◌&&◌, eqb, leb, cond, List, [], ◌∷◌, ◌++◌, length, take, drop, Option, None, Some, option_and_then, inl, inr, refl, sym, ◌∙◌, ap, subst, arith, append_assoc, length-append, length-drop, take-append-drop, length-take-le}
use Rattle.std.specs.List.{prefix_len}
use Rattle.std.specs.Option.{option_map, option_map_or}
use Rattle.std.proofs.lemmas.List.{drop-drop}
use Rattle.std.proofs.lemmas.Bool.{cases_Bool, and_parts, eqb-true}
use Rattle.std.proofs.lemmas.Bool.Decides.{nat_tests}
use Rattle.fits_card.specs.Card.{has_value}
use Rattle.fits_value.specs.Characters.{is_space, IsSpaces}
use Rattle.fits_value.specs.Spelling.{doubled, Spells}
use Rattle.fits_value.specs.Field.{ReadsAs, FieldReadsAs, IsEndingOf, IsPlacedIn, field, part}
use Rattle.fits_value.specs.Scan.{closing_of}
use Rattle.fits_value.specs.Says.{card_says, value_spelled}
use Rattle.fits_value.proofs.FrontLemmas.{Stops, prefix_len-front}
use Rattle.fits_value.proofs.QuoteLemmas.{is_quote, closing_only}
use Rattle.fits_value.proofs.SaysLemmas.{value_said}
use Rattle.fits_value.proofs.ValueScanLemmas.{spelled_stops}
use Rattle.fits_value.specs.declared.reading.ValueKind.{ValueKind}
use Rattle.fits_value.specs.declared.reading.ValueKind.TheVariants as kind
use Rattle.fits_value.specs.declared.reading.Span.{Span}
use Rattle.fits_value.specs.declared.reading.Reading.{Reading}
use Rattle.fits_value.specs.declared.value.Value.TheVariants.{Complex}
use Rattle.fits_codes.specs.Fixed.{fixed_type, fixed_said, span_fixed}
use Rattle.fits_codes.proofs.SaidLemmas.{said-no_field, said-unread, said-read}

-- where a value's spelling stands: after so many spaces of its field, from one place of the card to another
pub record Stands (field spelling : List ℕ) (span : Span) : Type 0 where
  pub spaces : prefix_len is_space field + 10 ≡ span.start
  pub size : length spelling + span.start ≡ span.end

-- a list from a place on, cut at another place
cut : (card : List ℕ) (start end : ℕ) → start ≤ end → drop start card ≡ take (end - start) (drop start card) ++ drop end card
cut card start end order =
    sym (take-append-drop (end - start) (drop start card)) ∙ ap (λ (xs : List ℕ). take (end - start) (drop start card) ++ xs) (drop-drop (end - start) start card ∙ ap (λ (n : ℕ). drop n card) (omega arith))

-- a value that is placed in its card stands there
pub stands : (card : List ℕ) (k : ValueKind) (span : Span) → (k ≡ kind.Undefined → ⊥) → Spells k (part card span) → 10 ≤ span.start → span.start ≤ span.end → span.end ≤ length card
    → IsSpaces (part card (record { start = 10; end = span.start })) → Stands (field card) (part card span) span
stands card k span some spelled from order within spaces =
    let front = take (span.start - 10) (drop 10 card) in
    let rest = drop span.end card in
    let whole : field card ≡ front ++ (part card span ++ rest) = cut card 10 span.start from ∙ ap (λ (xs : List ℕ). front ++ xs) (cut card span.start span.end order) in
    let first : prefix_len is_space (field card) ≡ length front = ap (prefix_len is_space) whole ∙ prefix_len-front is_space front (part card span ++ rest) spaces (spelled_stops k (part card span) rest some spelled) in
    let long : length front ≡ span.start - 10 = length-take-le (span.start - 10) (drop 10 card) (omega (arith, length-drop 10 card)) in
    let size : length (part card span) ≡ span.end - span.start = length-take-le (span.end - span.start) (drop span.start card) (omega (arith, length-drop span.start card)) in
    record { spaces = omega arith; size = omega arith }

-- two tests of numbers that are as far apart
same_test : (a b c d n : ℕ) → a + n ≡ b → c + n ≡ d → eqb a c ≡ eqb b d
same_test a b c d n e f = grind (arith, nat_tests)

-- an integer ends in byte 30
integer_ends : (spaces size start end : ℕ) → spaces + 10 ≡ start → size + start ≡ end → eqb (spaces + size) 20 ≡ eqb end 30
integer_ends spaces size start end e f = same_test (spaces + size) end 20 30 10 (omega arith) refl

-- a logical value does
logical_ends : (spaces start end : ℕ) → spaces + 10 ≡ start → 1 + start ≡ end → eqb spaces 19 ≡ eqb end 30
logical_ends spaces start end e f = same_test spaces end 19 30 11 (omega arith) refl

-- T and F have one letter
one_letter : (s : List ℕ) → Spells kind.Logical s → length s ≡ 1
one_letter s (inl e) = ap (λ (xs : List ℕ). length xs) e
one_letter s (inr e) = ap (λ (xs : List ℕ). length xs) e

-- what follows a string is no quote
no_quote : (after ending : List ℕ) (comment : Option (List ℕ)) → IsSpaces after → IsEndingOf ending comment → Stops is_quote (after ++ ending)
no_quote [] ending None spaces ends = subst (λ (xs : List ℕ). Stops is_quote xs) (sym ends) tt
no_quote [] ending (Some c) spaces ends = subst (λ (xs : List ℕ). Stops is_quote xs) (sym ends.3) refl
no_quote (b ∷ after) ending comment spaces ends = ap (λ (x : ℕ). is_quote x) (eqb-true b 32 (and_parts (is_space b) _ spaces).0)

-- nothing that has no length
empty : (xs : List ℕ) → length xs ≡ 0 → xs ≡ []
empty [] e = refl
empty (x ∷ xs) e = absurd (omega arith)

-- where a string begins its field, its closing quote is found
closes : (field s : List ℕ) (comment : Option (List ℕ)) → (h : FieldReadsAs field kind.Str s comment) → prefix_len is_space field ≡ 0
    → (n : ℕ) × (closing_of (drop 1 field) ≡ Some n) × (n + 2 ≡ length s)
closes field s comment h begins =
    let characters = h.spelled.0 in
    let rest = h.after ++ h.ending in
    let parts : field ≡ h.before ++ (s ++ rest) = h.parts ∙ simp append_assoc in
    let first : prefix_len is_space field ≡ length h.before =
    ap (prefix_len is_space) parts ∙ prefix_len-front is_space h.before (s ++ rest) h.spaced.0 (spelled_stops kind.Str s rest (λ e. absurd (let z = e in (cc))) h.spelled) in
    let none : h.before ≡ [] = empty h.before (omega arith) in
    let quoted : s ≡ 39 ∷ (doubled characters ++ 39 ∷ []) = h.spelled.1 in
    let whole : field ≡ 39 ∷ (doubled characters ++ 39 ∷ rest) =
    parts ∙ (ap (λ (xs : List ℕ). xs ++ (s ++ rest)) none ∙ (ap (λ (xs : List ℕ). xs ++ rest) quoted ∙ ap (λ (xs : List ℕ). 39 ∷ xs) (append_assoc (doubled characters) (39 ∷ []) rest))) in
    let found : closing_of (drop 1 field) ≡ Some (length (doubled characters)) =
    ap (λ (xs : List ℕ). closing_of (drop 1 xs)) whole ∙ closing_only characters rest (no_quote h.after h.ending comment h.spaced.1 h.ends) in (
      length (doubled characters),
      found,
      sym (ap (λ (xs : List ℕ). length xs) quoted ∙ omega (arith, length-append (doubled characters) (39 ∷ []))),
    )

-- a string begins in byte 11 and ends in byte 20 or later
string_tests : (field s : List ℕ) (comment : Option (List ℕ)) (span : Span) → FieldReadsAs field kind.Str s comment → Stands field s span
    → (eqb (prefix_len is_space field) 0 && option_map_or (leb 8) (closing_of (drop 1 field)) false) ≡ (eqb span.start 10 && leb 20 span.end)
string_tests field s comment span h at = elim (cases_Bool (eqb (prefix_len is_space field) 0)) [
  | inl zero_is ↦
      let begins : prefix_len is_space field ≡ 0 = eqb-true (prefix_len is_space field) 0 zero_is in
      let closed = closes field s comment h begins in
      let start : eqb span.start 10 ≡ true = sym (same_test (prefix_len is_space field) span.start 0 10 10 at.spaces refl) ∙ zero_is in
      let tests : leb 8 closed.0 ≡ leb 20 span.end = same_order closed.0 span.end (omega (arith, closed.2, at.spaces, at.size)) in
      ap (λ (b : Bool). b && option_map_or (leb 8) (closing_of (drop 1 field)) false) zero_is
      ∙ (ap (λ (o : Option ℕ). option_map_or (leb 8) o false) closed.1 ∙ (tests ∙ ap (λ (b : Bool). b && leb 20 span.end) (sym start)))
  | inr other ↦
      ap (λ (b : Bool). b && option_map_or (leb 8) (closing_of (drop 1 field)) false) other
      ∙ ap (λ (b : Bool). b && leb 20 span.end) (sym (sym (same_test (prefix_len is_space field) span.start 0 10 10 at.spaces refl) ∙ other))
]
  where
    same_order : (n end : ℕ) → n + 12 ≡ end → leb 8 n ≡ leb 20 end
    same_order n end e = grind (arith, nat_tests)

-- fixed format by the field is fixed format by the places
pub fixed_by_kind : (field : List ℕ) (k : ValueKind) (s : List ℕ) (comment : Option (List ℕ)) (span : Span) → FieldReadsAs field k s comment → ((k ≡ kind.Undefined → ⊥) → Stands field s span)
    → option_and_then (fixed_type field) (value_spelled k s) ≡ cond (span_fixed k span) (Some k) None
fixed_by_kind field kind.Undefined s comment span h at = refl
fixed_by_kind field kind.Logical s comment span h at =
    let there = at (λ e. let z = e in (cc)) in
    ap (λ (b : Bool). cond b (Some kind.Logical) None) (logical_ends (prefix_len is_space field) span.start span.end there.spaces (omega (arith, there.size, one_letter s h.spelled)))
fixed_by_kind field kind.Integer s comment span h at =
    let there = at (λ e. let z = e in (cc)) in
    ap (λ (b : Bool). cond b (Some kind.Integer) None) (integer_ends (prefix_len is_space field) (length s) span.start span.end there.spaces there.size)
fixed_by_kind field kind.Real s comment span h at = refl
fixed_by_kind field kind.Complex s comment span h at = ap (option_and_then (fixed_type field)) (value_said (Complex h.spelled.0 h.spelled.1) s h.spelled.2)
fixed_by_kind field kind.Str s comment span h at = ap (λ (b : Bool). cond b (Some kind.Str) None) (string_tests field s comment span h (at (λ e. let z = e in (cc))))

-- without a value field nothing is in fixed format
pub fixed-no_field : (card : List ℕ) → has_value card ≡ false → None ≡ fixed_said card
unfolding fixed_said
fixed-no_field card fails = sym (ap (option_and_then (fixed_type (field card))) (said-no_field card fails))

-- nor is what can't be read
pub fixed-unread : (card : List ℕ) → card_says card ≡ None → None ≡ fixed_said card
unfolding fixed_said
fixed-unread card silent = sym (ap (option_and_then (fixed_type (field card))) (said-unread card silent))

-- what is read is where its places are
pub fixed-read : (card : List ℕ) (r : Reading) → has_value card ≡ true → ReadsAs card r.kind (part card r.value) (option_map (part card) r.comment) → IsPlacedIn card 10 r
    → fixed_said card ≡ cond (span_fixed r.kind r.value) (Some r.kind) None
unfolding fixed_said
fixed-read card r holds read placed =
    ap (option_and_then (fixed_type (field card))) (said-read card r.kind (part card r.value) (option_map (part card) r.comment) holds read)
    ∙ fixed_by_kind (field card) r.kind (part card r.value) (option_map (part card) r.comment) r.value read.reads
    (λ some. stands card r.kind r.value some read.reads.spelled placed.value_from placed.value_order placed.value_within placed.value_after)
