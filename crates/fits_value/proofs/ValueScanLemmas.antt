-- The value at the front of a list against its spelling, in both directions.
use Rattle.std.proofs.Common.{◌≡◌, ℕ, ◌+◌, true, eqb, List, [], ◌∷◌, ◌++◌, length, take, Some, suc, refl, sym, ◌∙◌, ap, subst, arith, inl, inr, ◌⊎◌, ◌||◌, append_assoc, length-append}
use Rattle.std.proofs.Math.Seq.{take-append_seam}
use Rattle.std.proofs.lemmas.Bool.{or_cases, or_from, cond-false, eqb-true}
use Rattle.fits_value.proofs.FrontLemmas.{chosen, option_map_some, Stops}
use Rattle.fits_value.proofs.QuoteLemmas.{is_quote, closing_found, closing_only, Closed}
use Rattle.fits_value.proofs.NumberScanLemmas.{number_found, number_integer, number_real}
use Rattle.fits_value.proofs.SeparatorLemmas.{Separates, separator_is_not}
use Rattle.fits_value.proofs.NumberFrontLemmas.{IsFirst, Begins, first_is_not, begins_number, begins_stops}
use Rattle.fits_value.proofs.PairLemmas.{pair_found, pair_only}
use Rattle.fits_value.specs.Spelling.{is_space, doubled, IsComplexOf, Spells}
use Rattle.fits_value.specs.Field.{part}
use Rattle.fits_value.specs.Scan.{closing_of, number_of, pair_of, front_value}
use Rattle.fits_value.specs.declared.reading.ValueKind.{ValueKind}
use Rattle.fits_value.specs.declared.reading.ValueKind.TheVariants.{Undefined, Logical, Integer, Real, Complex, Str}
use Rattle.fits_value.specs.declared.scan_complex.Pair.{Pair}

-- equal pairs have equal parts
pub same_pair : (x y : ValueKind × ℕ) → Some x ≡ Some y → (x.0 ≡ y.0) × (x.1 ≡ y.1)
same_pair x y e = let p : x ≡ y = (cc) in (ap (λ (z : ValueKind × ℕ). z.0) p, ap (λ (z : ValueKind × ℕ). z.1) p)

-- a pair that is known, carried to the one that was asked of
told : (s : List ℕ) (x y : ValueKind × ℕ) → Some x ≡ Some y → Spells x.0 (take x.1 s) → Spells y.0 (take y.1 s)
told s x y e h = let p = same_pair x y e in subst (λ (k : ValueKind). Spells k (take y.1 s)) p.0 (subst (λ (i : ℕ). Spells x.0 (take i s)) p.1 h)

-- a string whose closing quote was found
quoted : (b : ℕ) (s : List ℕ) (n : ℕ) → eqb b 39 ≡ true → Closed s n → Spells Str (take (n + 2) (b ∷ s))
quoted b s n e r =
    let whole : s ≡ (doubled r.characters ++ 39 ∷ []) ++ r.rest = r.whole ∙ sym (append_assoc (doubled r.characters) (39 ∷ []) r.rest) in
    let size : n + 1 ≡ length (doubled r.characters ++ 39 ∷ []) = rw r.place (sym (length-append (doubled r.characters) (39 ∷ []))) in
    let cut : take (n + 1) s ≡ doubled r.characters ++ 39 ∷ [] = rw (size, whole) (take-append_seam (doubled r.characters ++ 39 ∷ []) r.rest) in
    let next : n + 2 ≡ suc (n + 1) = omega arith in (
      r.characters,
      ap (λ (i : ℕ). take i (b ∷ s)) next ∙ (ap (λ (x : List ℕ). b ∷ x) cut ∙ ap (λ (x : ℕ). x ∷ (doubled r.characters ++ 39 ∷ [])) (eqb-true b 39 e)),
    )

-- T or F
letter : (b : ℕ) (s : List ℕ) → ((eqb b 84) || (eqb b 70)) ≡ true → Spells Logical (take 1 (b ∷ s))
letter b s e = elim (or_cases (eqb b 84) (eqb b 70) e) [
  | inl x ↦ inl (ap (λ (c : ℕ). c ∷ []) (eqb-true b 84 x))
  | inr x ↦ inr (ap (λ (c : ℕ). c ∷ []) (eqb-true b 70 x))
]

-- a complex number after its opening bracket
bracketed : (b : ℕ) (s : List ℕ) (p : Pair) → eqb b 40 ≡ true → pair_of s ≡ Some p → Spells Complex (take p.len (b ∷ s))
bracketed b s p e f =
    let is : 40 ≡ b = sym (eqb-true b 40 e) in
    subst (λ (x : ℕ). Spells Complex (take p.len (x ∷ s))) is (part (40 ∷ s) p.real, part (40 ∷ s) p.imaginary, pair_found s p f)

-- the value that is found is spelled so
pub value_found : (s : List ℕ) (k : ValueKind) (n : ℕ) → front_value s ≡ Some (k, n) → Spells k (take n s)
unfolding front_value
value_found [] k n e = told [] (Undefined, 0) (k, n) e refl
value_found (b ∷ s) k n e = elim (chosen (eqb b 47) _ _ (Some (k, n)) e) [
  | inl w ↦ told (b ∷ s) (Undefined, 0) (k, n) w.1 refl
  | inr w ↦ elim (chosen (eqb b 39) _ _ (Some (k, n)) w.1) [
    | inl v ↦
        let m = option_map_some (λ (i : ℕ). let x : ValueKind × ℕ = (Str, i + 2) in x) (closing_of s) (k, n) v.1 in
        told (b ∷ s) (Str, m.0 + 2) (k, n) (ap Some m.2) (quoted b s m.0 v.0 (closing_found s m.0 m.1))
    | inr v ↦ elim (chosen ((eqb b 84) || (eqb b 70)) _ _ (Some (k, n)) v.1) [
      | inl u ↦ told (b ∷ s) (Logical, 1) (k, n) u.1 (letter b s u.0)
      | inr u ↦ elim (chosen (eqb b 40) _ _ (Some (k, n)) u.1) [
        | inl t ↦
            let m = option_map_some (λ (p : Pair). let x : ValueKind × ℕ = (Complex, p.len) in x) (pair_of s) (k, n) t.1 in
            told (b ∷ s) (Complex, m.0.len) (k, n) (ap Some m.2) (bracketed b s m.0 t.0 m.1)
        | inr t ↦ number_found (b ∷ s) k n t.1
      ]
    ]
  ]
]

-- no value stands before the end or a slash
pub value_undefined : (r : List ℕ) → (r ≡ []) ⊎ ((s : List ℕ) × (r ≡ 47 ∷ s)) → front_value r ≡ Some (Undefined, 0)
unfolding front_value
value_undefined r (inl e) = rw e refl
value_undefined r (inr w) = rw w.1 refl

-- a logical value is found
value_logical : (v r : List ℕ) → (v ≡ 84 ∷ []) ⊎ (v ≡ 70 ∷ []) → front_value (v ++ r) ≡ Some (Logical, length v)
unfolding front_value
value_logical v r (inl e) = rw e refl
value_logical v r (inr e) = rw e refl

-- no quote follows a value
stops_quote : (r : List ℕ) → Separates r → Stops is_quote r
stops_quote [] h = tt
stops_quote (b ∷ r) h = separator_is_not b 39 h (inl refl)

-- a string is found
value_quoted : (cs r : List ℕ) → Separates r → front_value ((39 ∷ doubled cs ++ 39 ∷ []) ++ r) ≡ Some (Str, length (39 ∷ doubled cs ++ 39 ∷ []))
unfolding front_value
value_quoted cs r h =
    let found : closing_of ((doubled cs ++ 39 ∷ []) ++ r) ≡ Some (length (doubled cs)) = ap closing_of (append_assoc (doubled cs) (39 ∷ []) r) ∙ closing_only cs r (stops_quote r h) in
    let size : length (doubled cs) + 2 ≡ suc (length (doubled cs ++ 39 ∷ [])) = omega (arith, length-append (doubled cs) (39 ∷ [])) in
    rw found (ap (λ (n : ℕ). let x : ValueKind × ℕ = (Str, n) in Some x) size)

-- a value after an opening bracket is a complex number
value_bracketed : (s : List ℕ) (p : Pair) → pair_of s ≡ Some p → front_value (40 ∷ s) ≡ Some (Complex, p.len)
unfolding front_value
value_bracketed s p f = rw f refl

-- a complex number is found
value_complex : (v real imaginary r : List ℕ) → IsComplexOf v real imaginary → front_value (v ++ r) ≡ Some (Complex, length v)
value_complex v real imaginary r h =
    let w = pair_only v real imaginary r h in
    ap front_value w.begins ∙ (value_bracketed w.tail w.pair w.found ∙ ap (λ (n : ℕ). let x : ValueKind × ℕ = (Complex, n) in Some x) w.len)

-- what begins as a number is read as one
value_first : (b : ℕ) (s : List ℕ) → IsFirst b → front_value (b ∷ s) ≡ number_of (b ∷ s)
unfolding front_value
value_first b s f =
    cond-false (eqb b 47) _ _ (first_is_not b 47 f (inl refl))
    ∙ (cond-false (eqb b 39) _ _ (first_is_not b 39 f (inr (inl refl)))
    ∙ (cond-false ((eqb b 84) || (eqb b 70)) _ _ (or_from _ _ (first_is_not b 84 f (inr (inr (inl refl)))) (first_is_not b 70 f (inr (inr (inr (inl refl))))))
    ∙ cond-false (eqb b 40) _ _ (first_is_not b 40 f (inr (inr (inr (inr refl)))))))

-- a list that begins as a number
value_begins : (s : List ℕ) → Begins s → front_value s ≡ number_of s
value_begins s h = ap front_value h.is ∙ (value_first h.head h.tail h.first ∙ ap number_of (sym h.is))

-- a value that is spelled, before what separates it, is found
pub value_only : (k : ValueKind) (v r : List ℕ) → (k ≡ Undefined → ⊥) → Spells k v → Separates r → front_value (v ++ r) ≡ Some (k, length v)
value_only Undefined v r k h s = absurd (k refl)
value_only Logical v r k h s = value_logical v r h
value_only Integer v r k h s = value_begins (v ++ r) (begins_number v r (inl h)) ∙ number_integer v r h s
value_only Real v r k h s = value_begins (v ++ r) (begins_number v r (inr h)) ∙ number_real v r h s
value_only Complex v r k h s = value_complex v h.0 h.1 r h.2
value_only Str v r k h s = subst (λ (x : List ℕ). front_value (x ++ r) ≡ Some (Str, length x)) (sym h.1) (value_quoted h.0 r s)

-- a value does not begin with a space
pub spelled_stops : (k : ValueKind) (v t : List ℕ) → (k ≡ Undefined → ⊥) → Spells k v → Stops is_space (v ++ t)
spelled_stops Undefined v t k h = absurd (k refl)
spelled_stops Logical v t k (inl e) = subst (λ (x : List ℕ). Stops is_space (x ++ t)) (sym e) refl
spelled_stops Logical v t k (inr e) = subst (λ (x : List ℕ). Stops is_space (x ++ t)) (sym e) refl
spelled_stops Integer v t k h = begins_stops (v ++ t) (begins_number v t (inl h))
spelled_stops Real v t k h = begins_stops (v ++ t) (begins_number v t (inr h))
spelled_stops Complex v t k h = subst (λ (x : List ℕ). Stops is_space (x ++ t)) (sym h.2.parts) refl
spelled_stops Str v t k h = subst (λ (x : List ℕ). Stops is_space (x ++ t)) (sym h.1) refl
