-- Readings that are found: the field says so.
use Rattle.std.proofs.Common.{◌≡◌, ℕ, zero, suc, ◌≤◌, ◌+◌, ◌-◌, true, eqb, List, [], ◌∷◌, ◌++◌, length, drop, take, Option, None, Some, refl, sym, ◌∙◌, ap, subst, arith, inl, inr, ◌⊎◌, append_assoc, length-append}
use Rattle.std.specs.Prelude.{IfSome}
use Rattle.std.specs.List.{prefix_len, suffix_len, list_all}
use Rattle.std.specs.Option.{option_map}
use Rattle.std.proofs.lemmas.List.{take-append-drop, length-take-le, length-drop}
use Rattle.std.proofs.lemmas.List.Folds.{list_all-append, length-prefix_len}
use Rattle.std.proofs.lemmas.Bool.{and_from, eqb-true}
use Rattle.fits_card.specs.Card.{IsText}
use Rattle.std.proofs.lemmas.Option.{same_Some}
use Rattle.fits_value.proofs.FrontLemmas.{chosen, prefix_passes}
use Rattle.fits_value.proofs.TrimLemmas.{trims}
use Rattle.fits_value.proofs.PartLemmas.{part_is}
use Rattle.fits_value.proofs.ValueScanLemmas.{value_found}
use Rattle.fits_value.specs.Spelling.{is_space, IsSpaces, Spells}
use Rattle.fits_value.specs.Field.{FieldReadsAs, IsPlacedIn, part}
use Rattle.fits_value.specs.Scan.{front_value, value_span, ending_of, valued_of, reading_of}
use Rattle.fits_value.specs.declared.reading.ValueKind.{ValueKind}
use Rattle.fits_value.specs.declared.reading.ValueKind.TheVariants.{Undefined, Logical, Integer, Real, Complex, Str}
use Rattle.fits_value.specs.declared.reading.Span.{Span}
use Rattle.fits_value.specs.declared.reading.Reading.{Reading}

-- the text says this reading, where its spans stand
pub record Describes (text : List ℕ) (r : Reading) : Type 0 where
  pub says : FieldReadsAs text r.kind (part text r.value) (option_map (part text) r.comment)
  pub placed : IsPlacedIn text 0 r

-- a text cut into the parts of a field: a value that is none begins where it does
pub record IsCut (text : List ℕ) (kind : ValueKind) (before spelling after ending : List ℕ) : Type 0 where
  pub whole : text ≡ before ++ (spelling ++ (after ++ ending))
  pub is_text : IsText text
  pub spaced : IsSpaces before × IsSpaces after
  pub spelled : Spells kind spelling
  pub no_value : kind ≡ Undefined → before ++ spelling ≡ []

-- where the spelling stands
abbrev pub span_after : List ℕ → List ℕ → Span
span_after before spelling = record { start = length before; end = length before + length spelling }

-- an empty list has no bytes
empty_lengths : (a b : List ℕ) → a ++ b ≡ [] → (length a ≡ 0) × (length b ≡ 0)
empty_lengths a b e =
    let size : length a + length b ≡ 0 = sym (length-append a b) ∙ ap length e in
    (omega arith, omega arith)

-- no value stands at the front
span_none : (before spelling : List ℕ) → before ++ spelling ≡ [] → span_after before spelling ≡ record { start = 0; end = 0 }
span_none before spelling e =
    let p = empty_lengths before spelling e in
    rw (p.0, p.1) refl

-- the lengths of the parts
cut_size : (text before spelling after ending : List ℕ) → text ≡ before ++ (spelling ++ (after ++ ending)) → length text ≡ length before + (length spelling + (length after + length ending))
cut_size text before spelling after ending e = rw e (simp length-append refl)

-- a field with no comment
plain_describes : (text before spelling after : List ℕ) (k : ValueKind) → IsCut text k before spelling after []
    → Describes text (record { kind = k; value = span_after before spelling; comment = None })
plain_describes text before spelling after k h =
    let value : part text (span_after before spelling) ≡ spelling = part_is text before spelling (after ++ []) _ _ h.whole refl refl in
    let size = cut_size text before spelling after [] h.whole in
    let front : part text (record { start = 0; end = length before }) ≡ before = part_is text [] before (spelling ++ (after ++ [])) _ _ h.whole refl (omega arith) in
    record {
      says = subst (λ (x : List ℕ). FieldReadsAs text k x None) (sym value) (record {
        before = before;
        after = after;
        ending = [];
        parts = h.whole ∙ simp append_assoc;
        is_text = h.is_text;
        spaced = h.spaced;
        spelled = h.spelled;
        ends = refl;
      });
      placed = record {
        value_from = omega arith;
        value_order = omega arith;
        value_within = omega (arith, size);
        value_after = subst (λ (x : List ℕ). IsSpaces x) (sym front) h.spaced.0;
        no_value = λ e. span_none before spelling (h.no_value e);
        comment_order = tt;
        comment_within = tt;
        comment_after = tt;
      };
    }

-- where the comment stands
abbrev pub comment_span : List ℕ → List ℕ → List ℕ → List ℕ → Span
comment_span before spelling after comment =
    record { start = length before + length spelling + length after + 1; end = length before + length spelling + length after + 1 + length comment }

-- a field with a comment
comment_describes : (text before spelling after comment spaces : List ℕ) (k : ValueKind) → IsCut text k before spelling after (47 ∷ (comment ++ spaces))
    → suffix_len is_space comment ≡ 0 → IsSpaces spaces
    → Describes text (record { kind = k; value = span_after before spelling; comment = Some (comment_span before spelling after comment) })
comment_describes text before spelling after comment spaces k h c s =
    let ending : List ℕ = 47 ∷ (comment ++ spaces) in
    let value : part text (span_after before spelling) ≡ spelling = part_is text before spelling (after ++ ending) _ _ h.whole refl refl in
    let size = cut_size text before spelling after ending h.whole in
    let ending_size : length ending ≡ 1 + (length comment + length spaces) = simp length-append (omega arith) in
    let front : part text (record { start = 0; end = length before }) ≡ before = part_is text [] before (spelling ++ (after ++ ending)) _ _ h.whole refl (omega arith) in
    let said : part text (comment_span before spelling after comment) ≡ comment =
    part_is text (before ++ spelling ++ after ++ 47 ∷ []) comment spaces _ _ (h.whole ∙ simp append_assoc) (simp length-append (omega arith)) (simp length-append (omega arith)) in
    let gap : part text (record { start = length before + length spelling; end = length before + length spelling + length after + 1 }) ≡ after ++ 47 ∷ [] =
    part_is text (before ++ spelling) (after ++ 47 ∷ []) (comment ++ spaces) _ _ (h.whole ∙ simp append_assoc) (simp length-append refl) (simp length-append (omega arith)) in
    record {
      says = subst (λ (x : List ℕ). FieldReadsAs text k x (Some (part text (comment_span before spelling after comment)))) (sym value)
          (subst (λ (x : List ℕ). FieldReadsAs text k spelling (Some x)) (sym said) (record {
            before = before;
            after = after;
            ending = ending;
            parts = h.whole ∙ simp append_assoc;
            is_text = h.is_text;
            spaced = h.spaced;
            spelled = h.spelled;
            ends = (spaces, s, c, refl);
          }));
      placed = record {
        value_from = omega arith;
        value_order = omega arith;
        value_within = omega (arith, size);
        value_after = subst (λ (x : List ℕ). IsSpaces x) (sym front) h.spaced.0;
        no_value = λ e. span_none before spelling (h.no_value e);
        comment_order = omega arith;
        comment_within = omega (arith, size, ending_size);
        comment_after = (after, h.spaced.1, gap);
      };
    }

-- the reading that an ending gives
ending_describes : (text before spelling after ending : List ℕ) (k : ValueKind) (r : Reading) → IsCut text k before spelling after ending
    → ending_of k (span_after before spelling) (length before + length spelling + length after) ending ≡ Some r → Describes text r
ending_describes text before spelling after [] k r h e = subst (λ (x : Reading). Describes text x) (same_Some _ r e) (plain_describes text before spelling after k h)
ending_describes text before spelling after (c ∷ s) k r h e =
    let n = length before + length spelling + length after in
    let value = span_after before spelling in
    elim (chosen (eqb c 47) _ None (Some r) e) [
      | inl w ↦
          let t = trims is_space s in
          let size : length s - suffix_len is_space s ≡ length t.front = rw t.size (omega (arith, length-append t.front t.back, ap length t.whole)) in
          let is : c ∷ s ≡ 47 ∷ (t.front ++ t.back) = ap (λ (x : ℕ). x ∷ s) (eqb-true c 47 w.0) ∙ ap (λ (x : List ℕ). 47 ∷ x) t.whole in
          let made : Reading = record { kind = k; value = value; comment = Some (record { start = n + 1; end = n + 1 + length t.front }) } in
          let same : made ≡ r =
          ap (λ (m : ℕ). let x : Reading = record { kind = k; value = value; comment = Some (record { start = n + 1; end = n + 1 + m }) } in x) (sym size) ∙ same_Some _ r w.1 in
          subst (λ (x : Reading). Describes text x) same
          (comment_describes text before spelling after t.front t.back k (subst (λ (x : List ℕ). IsCut text k before spelling after x) is h) t.stops t.passes)
      | inr w ↦ absurd (let z = w.1 in (cc))
    ]

-- whether there is a value
pub is_undefined : (k : ValueKind) → (k ≡ Undefined) ⊎ (k ≡ Undefined → ⊥)
is_undefined Undefined = inl refl
is_undefined Logical = inr (λ e. (cc))
is_undefined Integer = inr (λ e. (cc))
is_undefined Real = inr (λ e. (cc))
is_undefined Complex = inr (λ e. (cc))
is_undefined Str = inr (λ e. (cc))

-- where a value stands
pub value_span-some : (k : ValueKind) (start len : ℕ) → (k ≡ Undefined → ⊥) → value_span k start len ≡ record { start = start; end = start + len }
value_span-some Undefined start len h = absurd (h refl)
value_span-some Logical start len h = refl
value_span-some Integer start len h = refl
value_span-some Real start len h = refl
value_span-some Complex start len h = refl
value_span-some Str start len h = refl

-- no value stands at the front
pub value_span-none : (k : ValueKind) (start len : ℕ) → k ≡ Undefined → value_span k start len ≡ record { start = 0; end = 0 }
value_span-none k start len e = rw e refl

-- no value has no bytes
pub undefined_spelled : (k : ValueKind) (v : List ℕ) → k ≡ Undefined → Spells k v → v ≡ []
undefined_spelled k v e h = let P : ValueKind → Type 0 = λ x. Spells x v in subst P e h

-- spaces and spaces
pub all_two : (s t : List ℕ) → IsSpaces s → IsSpaces t → list_all is_space (s ++ t) ≡ true
all_two s t a b = list_all-append is_space s t ∙ and_from _ _ a b

-- the reading of parts that were taken
parts_describe : (text before spelling after ending : List ℕ) (k : ValueKind) (r : Reading) → text ≡ before ++ (spelling ++ (after ++ ending)) → IsText text → IsSpaces before → IsSpaces after → Spells k spelling
    → ending_of k (value_span k (length before) (length spelling)) (length before + length spelling + length after) ending ≡ Some r → Describes text r
parts_describe text before spelling after ending k r whole is_text b a h e = elim (is_undefined k) [
  | inl u ↦
      let none : spelling ≡ [] = undefined_spelled k spelling u h in
      let size : length spelling ≡ 0 = ap length none in
      let cut : text ≡ [] ++ ([] ++ ((before ++ after) ++ ending)) = whole ∙ rw none (simp append_assoc) in
      let place : length before + length spelling + length after ≡ 0 + 0 + length (before ++ after) = simp length-append (omega (arith, size)) in
      ending_describes text [] [] (before ++ after) ending k r
      (record { whole = cut; is_text = is_text; spaced = (refl, all_two before after b a); spelled = subst (λ (x : List ℕ). Spells k x) none h; no_value = λ _. refl })
      (sym (ap (λ (n : ℕ). ending_of k (record { start = 0; end = 0 }) n ending) place) ∙ (sym (ap (λ (v : Span). ending_of k v (length before + length spelling + length after) ending) (value_span-none k (length before) (length spelling) u)) ∙ e))
  | inr u ↦
      ending_describes text before spelling after ending k r
      (record { whole = whole; is_text = is_text; spaced = (b, a); spelled = h; no_value = λ e. absurd (u e) })
      (sym (ap (λ (v : Span). ending_of k v (length before + length spelling + length after) ending) (value_span-some k (length before) (length spelling) u)) ∙ e)
]

-- the size of no value in an empty list
empty_size : (k : ValueKind) (n : ℕ) → front_value [] ≡ Some (k, n) → 0 ≡ n
unfolding front_value
empty_size k n e = let x : ValueKind × ℕ = (Undefined, 0) in let y : ValueKind × ℕ = (k, n) in let p : x ≡ y = (cc) in ap (λ (z : ValueKind × ℕ). z.1) p

-- nothing was taken from a list that is not empty
take_none : (n b : ℕ) (s : List ℕ) → take n (b ∷ s) ≡ [] → n ≡ 0
take_none zero b s e = refl
take_none (suc n) b s e = absurd (cc)

-- no value takes no bytes
none_size : (s : List ℕ) (k : ValueKind) (n : ℕ) → front_value s ≡ Some (k, n) → k ≡ Undefined → n ≡ 0
none_size [] k n e u = sym (empty_size k n e)
none_size (b ∷ s) k n e u = take_none n b s (undefined_spelled k (take n (b ∷ s)) u (value_found (b ∷ s) k n e))

-- the value of a reading
pub ending_value : (k : ValueKind) (v : Span) (n : ℕ) (s : List ℕ) (r : Reading) → ending_of k v n s ≡ Some r → v ≡ r.value
ending_value k v n [] r e = ap (λ (x : Reading). x.value) (same_Some _ r e)
ending_value k v n (c ∷ s) r e = elim (chosen (eqb c 47) _ None (Some r) e) [
  | inl w ↦ ap (λ (x : Reading). x.value) (same_Some _ r w.1)
  | inr w ↦ absurd (let z = w.1 in (cc))
]

-- a value that was taken lies in the text
value_size : (text : List ℕ) (v : ValueKind × ℕ) (r : Reading) → prefix_len is_space text ≤ length text → r.value.end ≤ length text
    → front_value (drop (prefix_len is_space text) text) ≡ Some v → value_span v.0 (prefix_len is_space text) v.1 ≡ r.value → v.1 ≤ length (drop (prefix_len is_space text) text)
value_size text v r within last e f =
    let a = prefix_len is_space text in
    let size : length (drop a text) ≡ length text - a = length-drop a text in
    elim (is_undefined v.0) [
      | inl u ↦ let none : v.1 ≡ 0 = none_size (drop a text) v.0 v.1 e u in omega (arith, none)
      | inr u ↦
          let end : a + v.1 ≡ r.value.end = ap (λ (x : Span). x.end) (sym (value_span-some v.0 a v.1 u) ∙ f) in
          omega (arith, size, end, last)
    ]

-- the reading of a value that was taken
valued_describes : (text : List ℕ) (v : Option (ValueKind × ℕ)) (r : Reading) → IsText text → r.value.end ≤ length text
    → front_value (drop (prefix_len is_space text) text) ≡ v → valued_of (prefix_len is_space text) (drop (prefix_len is_space text) text) v ≡ Some r → Describes text r
valued_describes text None r is_text last e f = absurd (cc)
valued_describes text (Some v) r is_text last e f =
    let a = prefix_len is_space text in
    let body = drop a text in
    let rest = drop v.1 body in
    let g = prefix_len is_space rest in
    let s1 : length (take a text) ≡ a = length-prefix_len is_space text in
    let whole_size : length (take a text) + length (drop a text) ≡ length text = sym (length-append (take a text) (drop a text)) ∙ ap length (take-append-drop a text) in
    let value : value_span v.0 a v.1 ≡ r.value = ending_value v.0 (value_span v.0 a v.1) (a + v.1 + g) (drop g rest) r f in
    let s2 : length (take v.1 body) ≡ v.1 = length-take-le v.1 body (value_size text v r (omega (arith, s1, whole_size)) last e value) in
    let s3 : length (take g rest) ≡ g = length-prefix_len is_space rest in
    let whole : text ≡ take a text ++ (take v.1 body ++ (take g rest ++ drop g rest)) =
    sym (take-append-drop a text) ∙ ap (λ (x : List ℕ). take a text ++ x) (sym (take-append-drop v.1 body) ∙ ap (λ (x : List ℕ). take v.1 body ++ x) (sym (take-append-drop g rest))) in
    let found : ending_of v.0 (value_span v.0 (length (take a text)) (length (take v.1 body))) (length (take a text) + length (take v.1 body) + length (take g rest)) (drop g rest) ≡ Some r = rw (s1, s2, s3) f in
    parts_describe text (take a text) (take v.1 body) (take g rest) (drop g rest) v.0 r whole is_text (prefix_passes is_space text) (prefix_passes is_space rest) (value_found body v.0 v.1 e) found

-- a reading that is found is said
reading_found : (text : List ℕ) (r : Reading) → IsText text → r.value.end ≤ length text → reading_of text ≡ Some r → Describes text r
unfolding reading_of
reading_found text r is_text last e = valued_describes text (front_value (drop (prefix_len is_space text) text)) r is_text last refl e

-- so is whatever reading is found
scan_found : (text : List ℕ) (found : Option Reading) → IsText text → IfSome found (λ (r : Reading). r.value.end ≤ length text) → found ≡ reading_of text → IfSome found (Describes text)
scan_found text None h w e = tt
scan_found text (Some r) h w e = reading_found text r h w (sym e)

-- the text says what is found
some_said : (found : Option Reading) (text : List ℕ) → IfSome found (Describes text) → IfSome found (λ (r : Reading). FieldReadsAs text r.kind (part text r.value) (option_map (part text) r.comment))
some_said None text h = tt
some_said (Some r) text h = h.says

-- the spans that are found stand in the text
some_placed : (found : Option Reading) (text : List ℕ) → IfSome found (Describes text) → IfSome found (IsPlacedIn text 0)
some_placed None text h = tt
some_placed (Some r) text h = h.placed

-- what the scanner of a text promises of what it finds
pub found_said : (text : List ℕ) (found : Option Reading) → IsText text → IfSome found (λ (r : Reading). r.value.end ≤ length text) → found ≡ reading_of text
    → IfSome found (λ (r : Reading). FieldReadsAs text r.kind (part text r.value) (option_map (part text) r.comment))
found_said text found h w e = some_said found text (scan_found text found h w e)

-- and of the places
pub found_placed : (text : List ℕ) (found : Option Reading) → IsText text → IfSome found (λ (r : Reading). r.value.end ≤ length text) → found ≡ reading_of text → IfSome found (IsPlacedIn text 0)
found_placed text found h w e = some_placed found text (scan_found text found h w e)
