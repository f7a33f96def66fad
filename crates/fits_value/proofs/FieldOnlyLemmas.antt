-- Readings that are said: they are found, and no other.
use Rattle.std.proofs.Common.{◌≡◌, ℕ, ◌+◌, ◌-◌, eqb, List, [], ◌∷◌, ◌++◌, length, drop, Option, None, Some, refl, sym, ◌∙◌, ap, subst, arith, inl, inr, ◌⊎◌, append_assoc, length-append}
use Rattle.std.specs.Prelude.{IsSomeAnd}
use Rattle.std.specs.List.{prefix_len, suffix_len}
use Rattle.std.specs.Option.{option_map}
use Rattle.std.proofs.Math.Seq.{drop-append_seam}
use Rattle.std.proofs.lemmas.List.{append-nil}
use Rattle.std.proofs.lemmas.Bool.{and_parts, eqb-true}
use Rattle.fits_value.proofs.FrontLemmas.{Stops, prefix_len-front}
use Rattle.fits_value.proofs.TrimLemmas.{suffix_len-back}
use Rattle.fits_value.proofs.PartLemmas.{part_is}
use Rattle.fits_value.proofs.SeparatorLemmas.{Separates}
use Rattle.fits_value.proofs.ValueScanLemmas.{value_only, value_undefined, spelled_stops}
use Rattle.fits_value.proofs.FieldLemmas.{is_undefined, undefined_spelled, all_two, value_span-some, value_span-none, span_after}
use Rattle.fits_value.specs.Spelling.{is_space, IsSpaces}
use Rattle.fits_value.specs.Field.{IsEndingOf, FieldReadsAs, part}
use Rattle.fits_value.specs.Scan.{front_value, value_span, ending_of, reading_of}
use Rattle.fits_value.specs.declared.reading.ValueKind.{ValueKind}
use Rattle.fits_value.specs.declared.reading.ValueKind.TheVariants.{Undefined}
use Rattle.fits_value.specs.declared.reading.Span.{Span}
use Rattle.fits_value.specs.declared.reading.Reading.{Reading}

-- the steps of a text that is cut into the parts of a field
parts_found : (text before v after ending : List ℕ) (k : ValueKind) → text ≡ before ++ (v ++ (after ++ ending)) → IsSpaces before → IsSpaces after
    → Stops is_space (v ++ (after ++ ending)) → front_value (v ++ (after ++ ending)) ≡ Some (k, length v) → Stops is_space ending
    → reading_of text ≡ ending_of k (value_span k (length before) (length v)) (length before + length v + length after) ending
unfolding reading_of
parts_found text before v after ending k e b a s f t =
    let body = v ++ (after ++ ending) in
    let start : prefix_len is_space text ≡ length before = rw e (prefix_len-front is_space before body b s) in
    let cut : drop (length before) text ≡ body = rw e (drop-append_seam before body) in
    let rest : drop (length v) body ≡ after ++ ending = drop-append_seam v (after ++ ending) in
    let gap : prefix_len is_space (after ++ ending) ≡ length after = prefix_len-front is_space after ending a t in
    rw (start, cut, f, rest, gap, drop-append_seam after ending) refl

-- what is found: a reading of this kind, spelling and comment
abbrev pub Gives : List ℕ → ValueKind → List ℕ → Option (List ℕ) → Option Reading → Type 0
Gives text k spelling comment found =
    (r : Reading) × (found ≡ Some r) × (r.kind ≡ k) × (part text r.value ≡ spelling) × (option_map (part text) r.comment ≡ comment)

-- an ending gives its comment
ending_gives : (text before ending : List ℕ) (k : ValueKind) (value : Span) (v : List ℕ) (n : ℕ) (comment : Option (List ℕ)) → text ≡ before ++ ending → n ≡ length before → part text value ≡ v → IsEndingOf ending comment
    → Gives text k v comment (ending_of k value n ending)
ending_gives text before ending k value v n None e p f h = (record { kind = k; value = value; comment = None }, rw h refl, refl, f, refl)
ending_gives text before ending k value v n (Some c) e p f h =
    let whole : text ≡ (before ++ 47 ∷ []) ++ (c ++ h.0) = e ∙ (ap (λ (x : List ℕ). before ++ x) h.3 ∙ sym (append_assoc before (47 ∷ []) (c ++ h.0))) in
    let size : length (c ++ h.0) - suffix_len is_space (c ++ h.0) ≡ length c = rw (suffix_len-back is_space c h.0 h.2 h.1) (omega (arith, length-append c h.0)) in
    let place : n + 1 ≡ length (before ++ 47 ∷ []) = simp length-append (omega arith) in
    let said : part text (record { start = n + 1; end = n + 1 + length c }) ≡ c = part_is text (before ++ 47 ∷ []) c h.0 _ _ whole place (omega (arith, place)) in (
      record { kind = k; value = value; comment = Some (record { start = n + 1; end = n + 1 + length c }) },
      rw h.3 (ap (λ (m : ℕ). let x : Reading = record { kind = k; value = value; comment = Some (record { start = n + 1; end = n + 1 + m }) } in Some x) size),
      refl,
      f,
      ap Some said,
    )

-- an ending begins with no space
ending_stops : (ending : List ℕ) (comment : Option (List ℕ)) → IsEndingOf ending comment → Stops is_space ending
ending_stops ending None h = subst (λ (x : List ℕ). Stops is_space x) (sym h) tt
ending_stops ending (Some c) h = subst (λ (x : List ℕ). Stops is_space x) (sym h.3) refl

-- an ending is nothing or begins with a slash
ending_first : (ending : List ℕ) (comment : Option (List ℕ)) → IsEndingOf ending comment → (ending ≡ []) ⊎ ((s : List ℕ) × (ending ≡ 47 ∷ s))
ending_first ending None h = inl h
ending_first ending (Some c) h = inr (c ++ h.0, h.3)

-- what follows a value may do so
separated : (after ending : List ℕ) (comment : Option (List ℕ)) → IsSpaces after → IsEndingOf ending comment → Separates (after ++ ending)
separated [] ending None a h = subst (λ (x : List ℕ). Separates x) (sym h) tt
separated [] ending (Some c) a h = subst (λ (x : List ℕ). Separates x) (sym h.3) (inr (inl refl))
separated (b ∷ after) ending comment a h = inl (eqb-true b 32 (and_parts (eqb b 32) _ a).0)

-- a field with no value is read so
none_only : (text : List ℕ) (k : ValueKind) (v : List ℕ) (comment : Option (List ℕ)) → k ≡ Undefined → FieldReadsAs text k v comment → Gives text k v comment (reading_of text)
none_only text k v comment e h =
    let none : v ≡ [] = undefined_spelled k v e h.spelled in
    let front : List ℕ = h.before ++ h.after in
    let parts : text ≡ front ++ h.ending = h.parts ∙ rw none (simp (append_assoc, append-nil)) in
    let value : front_value h.ending ≡ Some (k, 0) = value_undefined h.ending (ending_first h.ending comment h.ends) ∙ ap (λ (x : ValueKind). let y : ValueKind × ℕ = (x, 0) in Some y) (sym e) in
    let stops = ending_stops h.ending comment h.ends in
    let found = parts_found text front [] [] h.ending k parts (all_two h.before h.after h.spaced.0 h.spaced.1) refl stops value stops in
    let at : value_span k (length front) 0 ≡ record { start = 0; end = 0 } = value_span-none k (length front) 0 e in
    let empty : part text (value_span k (length front) 0) ≡ v = ap (λ (x : Span). part text x) at ∙ sym none in
    let given = ending_gives text front h.ending k (value_span k (length front) 0) v (length front + 0 + 0) comment parts (omega arith) empty h.ends in
    (given.0, found ∙ given.1, given.2, given.3, given.4)

-- a field with a value is read so
some_only : (text : List ℕ) (k : ValueKind) (v : List ℕ) (comment : Option (List ℕ)) → (k ≡ Undefined → ⊥) → FieldReadsAs text k v comment → Gives text k v comment (reading_of text)
some_only text k v comment e h =
    let rest : List ℕ = h.after ++ h.ending in
    let front : List ℕ = h.before ++ v ++ h.after in
    let parts : text ≡ h.before ++ (v ++ rest) = h.parts ∙ simp append_assoc in
    let value = value_only k v rest e h.spelled (separated h.after h.ending comment h.spaced.1 h.ends) in
    let found = parts_found text h.before v h.after h.ending k parts h.spaced.0 h.spaced.1 (spelled_stops k v rest e h.spelled) value (ending_stops h.ending comment h.ends) in
    let at : value_span k (length h.before) (length v) ≡ span_after h.before v = value_span-some k (length h.before) (length v) e in
    let said : part text (value_span k (length h.before) (length v)) ≡ v = ap (λ (x : Span). part text x) at ∙ part_is text h.before v rest _ _ parts refl refl in
    let n = length h.before + length v + length h.after in
    let given = ending_gives text front h.ending k (value_span k (length h.before) (length v)) v n comment h.parts (simp length-append (omega arith)) said h.ends in
    (given.0, found ∙ given.1, given.2, given.3, given.4)

-- a reading that is said is found
pub reading_only : (text : List ℕ) (k : ValueKind) (v : List ℕ) (comment : Option (List ℕ)) → FieldReadsAs text k v comment → Gives text k v comment (reading_of text)
reading_only text k v comment h = elim (is_undefined k) [ inl e ↦ none_only text k v comment e h | inr e ↦ some_only text k v comment e h ]

-- so it is whatever was found
pub scan_only : (text : List ℕ) (found : Option Reading) → found ≡ reading_of text → (k : ValueKind) (spelling : List ℕ) (comment : Option (List ℕ)) → FieldReadsAs text k spelling comment
    → IsSomeAnd found (λ (r : Reading). (r.kind ≡ k) × (part text r.value ≡ spelling) × (option_map (part text) r.comment ≡ comment))
scan_only text found e k spelling comment h =
    let given = reading_only text k spelling comment h in
    subst (λ (o : Option Reading). IsSomeAnd o (λ (r : Reading). (r.kind ≡ k) × (part text r.value ≡ spelling) × (option_map (part text) r.comment ≡ comment))) (sym (e ∙ given.1)) (given.2, given.3, given.4)
