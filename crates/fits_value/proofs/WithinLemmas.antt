-- What is found at the front of a text lies in it.
use Rattle.std.proofs.Common.{◌≡◌, ℕ, ◌≤◌, ◌+◌, Bool, eqb, List, [], ◌∷◌, length, drop, take, Option, None, Some, refl, ap, arith, inl, inr, ◌||◌, length-append}
use Rattle.std.specs.List.{prefix_len}
use Rattle.std.proofs.lemmas.List.{take-append-drop, length-drop}
use Rattle.std.proofs.lemmas.List.Folds.{length-prefix_len}
use Rattle.fits_value.proofs.FrontLemmas.{chosen, option_map_some}
use Rattle.fits_value.proofs.NumberScanLemmas.{number_within}
use Rattle.fits_value.proofs.QuoteLemmas.{closing_found}
use Rattle.fits_value.proofs.PairLemmas.{pair_within}
use Rattle.fits_value.proofs.ValueScanLemmas.{same_pair}
use Rattle.fits_value.proofs.FieldLemmas.{ending_value}
use Rattle.fits_value.specs.Spelling.{is_space, doubled}
use Rattle.fits_value.specs.Scan.{closing_of, pair_of, front_value, value_span, valued_of, reading_of}
use Rattle.fits_value.specs.declared.reading.ValueKind.{ValueKind}
use Rattle.fits_value.specs.declared.reading.ValueKind.TheVariants.{Undefined, Logical, Integer, Real, Complex, Str}
use Rattle.fits_value.specs.declared.reading.Reading.{Reading}
use Rattle.fits_value.specs.declared.scan_complex.Pair.{Pair}

-- a prefix that passes
front_within : (p : ℕ → Bool) (s : List ℕ) → prefix_len p s ≤ length s
front_within p s =
    let k = prefix_len p s in
    omega (arith, length-prefix_len p s, length-append (take k s) (drop k s), ap length (take-append-drop k s))

-- a closing quote
closing_within : (s : List ℕ) (n : ℕ) → closing_of s ≡ Some n → n + 1 ≤ length s
closing_within s n e =
    let h = closing_found s n e in
    omega (arith, h.place, ap length h.whole, length-append (doubled h.characters) (39 ∷ h.rest))

-- a value
value_within : (s : List ℕ) (k : ValueKind) (n : ℕ) → front_value s ≡ Some (k, n) → n ≤ length s
unfolding front_value
value_within [] k n e = let p = same_pair (Undefined, 0) (k, n) e in omega (arith, p.1)
value_within (b ∷ s) k n e = elim (chosen (eqb b 47) _ _ (Some (k, n)) e) [
  | inl w ↦ let p = same_pair (Undefined, 0) (k, n) w.1 in omega (arith, p.1)
  | inr w ↦ elim (chosen (eqb b 39) _ _ (Some (k, n)) w.1) [
    | inl v ↦
        let m = option_map_some (λ (i : ℕ). let x : ValueKind × ℕ = (Str, i + 2) in x) (closing_of s) (k, n) v.1 in
        omega (arith, closing_within s m.0 m.1, ap (λ (x : ValueKind × ℕ). x.1) m.2)
    | inr v ↦ elim (chosen ((eqb b 84) || (eqb b 70)) _ _ (Some (k, n)) v.1) [
      | inl u ↦ let p = same_pair (Logical, 1) (k, n) u.1 in omega (arith, p.1)
      | inr u ↦ elim (chosen (eqb b 40) _ _ (Some (k, n)) u.1) [
        | inl t ↦
            let m = option_map_some (λ (p : Pair). let x : ValueKind × ℕ = (Complex, p.len) in x) (pair_of s) (k, n) t.1 in
            omega (arith, pair_within s m.0 m.1, ap (λ (x : ValueKind × ℕ). x.1) m.2)
        | inr t ↦ number_within (b ∷ s) k n t.1
      ]
    ]
  ]
]

-- the end of a value's span
span_within : (k : ValueKind) (start len : ℕ) → (value_span k start len).end ≤ start + len
span_within Undefined start len = omega arith
span_within Logical start len = omega arith
span_within Integer start len = omega arith
span_within Real start len = omega arith
span_within Complex start len = omega arith
span_within Str start len = omega arith

-- the value of a reading, from the value that was taken
valued_within : (text : List ℕ) (o : Option (ValueKind × ℕ)) (r : Reading) → front_value (drop (prefix_len is_space text) text) ≡ o
    → valued_of (prefix_len is_space text) (drop (prefix_len is_space text) text) o ≡ Some r → r.value.end ≤ length text
valued_within text None r e f = absurd (cc)
valued_within text (Some v) r e f =
    let a = prefix_len is_space text in
    let body = drop a text in
    let rest = drop v.1 body in
    let gap = prefix_len is_space rest in
    let value : value_span v.0 a v.1 ≡ r.value = ending_value v.0 (value_span v.0 a v.1) (a + v.1 + gap) (drop gap rest) r f in
    omega (arith, ap (λ x. x.end) value, span_within v.0 a v.1, value_within body v.0 v.1 e, length-drop a text, front_within is_space text)

-- the value of a reading that is found lies in the text
pub reading_within : (text : List ℕ) (r : Reading) → reading_of text ≡ Some r → r.value.end ≤ length text
unfolding reading_of
reading_within text r e = valued_within text (front_value (drop (prefix_len is_space text) text)) r refl e
