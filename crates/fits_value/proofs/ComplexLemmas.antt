-- Complex numbers at the front of a list against their spellings, in both directions.
use Rattle.std.proofs.Common.{◌≡◌, ℕ, ◌≤◌, ◌+◌, eqb, List, [], ◌∷◌, ◌++◌, length, drop, take, Option, None, Some, refl, sym, ◌∙◌, ap, subst, arith, inl, inr, ◌⊎◌}
use Rattle.std.specs.List.{prefix_len}
use Rattle.std.proofs.Math.Seq.{drop-append_seam}
use Rattle.std.proofs.lemmas.List.{take-append-drop, length-take-le, length-drop, drop-drop}
use Rattle.std.proofs.lemmas.List.Folds.{length-prefix_len}
use Rattle.std.proofs.lemmas.Bool.{eqb-true, and_parts}
use Rattle.std.proofs.lemmas.Option.{same_Some}
use Rattle.fits_value.proofs.FrontLemmas.{Stops, prefix_len-front, prefix_passes}
use Rattle.fits_value.proofs.NumberScanLemmas.{number_found, number_integer, number_real, number_kinds}
use Rattle.fits_value.proofs.SeparatorLemmas.{Separates}
use Rattle.fits_value.proofs.NumberFrontLemmas.{begins_number, begins_stops}
use Rattle.fits_value.specs.Spelling.{is_space, IsSpaces, Spells}
use Rattle.fits_value.specs.Number.{IsNumber}
use Rattle.fits_value.specs.Scan.{number_of, element_at, element_of}
use Rattle.fits_value.specs.declared.reading.ValueKind.{ValueKind}
use Rattle.fits_value.specs.declared.reading.ValueKind.TheVariants.{Integer, Real}
use Rattle.fits_value.specs.declared.scan_complex.Element.{Element}

-- a spelling of such a kind is a number
number_spelled : (k : ValueKind) (s : List ℕ) → (k ≡ Integer) ⊎ (k ≡ Real) → Spells k s → IsNumber s
number_spelled k s (inl e) h = inl (subst (λ (x : ValueKind). Spells x s) e h)
number_spelled k s (inr e) h = inr (subst (λ (x : ValueKind). Spells x s) e h)

-- what an element takes: spaces, a number and spaces
pub record IsElementOf (s : List ℕ) (e : Element) : Type 0 where
  pub before : List ℕ
  pub number : List ℕ
  pub after : List ℕ
  pub spaced : IsSpaces before × IsSpaces after
  pub is_number : IsNumber number
  pub whole : s ≡ before ++ (number ++ (after ++ drop e.len s))
  pub start : e.start ≡ length before
  pub end : e.end ≡ length before + length number
  pub len : e.len ≡ length before + length number + length after

-- the element of a number that was found
element_at_found : (s : List ℕ) (o : Option (ValueKind × ℕ)) (e : Element) → e.len ≤ length s → number_of (drop (prefix_len is_space s) s) ≡ o
    → element_at (prefix_len is_space s) (drop (prefix_len is_space s) s) o ≡ Some e → IsElementOf s e
element_at_found s None e within f g = absurd (cc)
element_at_found s (Some v) e within f g =
    let a = prefix_len is_space s in
    let body = drop a s in
    let behind = drop v.1 body in
    let c = prefix_len is_space behind in
    let is = same_Some _ e g in
    let start : a ≡ e.start = ap (λ (x : Element). x.start) is in
    let end : a + v.1 ≡ e.end = ap (λ (x : Element). x.end) is in
    let len : a + v.1 + c ≡ e.len = ap (λ (x : Element). x.len) is in
    let s1 : length (take a s) ≡ a = length-prefix_len is_space s in
    let s2 : length (take v.1 body) ≡ v.1 = length-take-le v.1 body (omega (arith, length-drop a s)) in
    let s3 : length (take c behind) ≡ c = length-prefix_len is_space behind in
    let whole : s ≡ take a s ++ (take v.1 body ++ (take c behind ++ drop c behind)) =
    sym (take-append-drop a s) ∙ ap (λ (x : List ℕ). take a s ++ x) (sym (take-append-drop v.1 body) ∙ ap (λ (x : List ℕ). take v.1 body ++ x) (sym (take-append-drop c behind))) in
    let cut : drop e.len s ≡ drop c behind = ap (λ (n : ℕ). drop n s) (sym len) ∙ (sym (drop-drop c (a + v.1) s) ∙ ap (λ (x : List ℕ). drop c x) (sym (drop-drop v.1 a s))) in
    record {
      before = take a s;
      number = take v.1 body;
      after = take c behind;
      spaced = (prefix_passes is_space s, prefix_passes is_space behind);
      is_number = number_spelled v.0 (take v.1 body) (number_kinds body v.0 v.1 f) (number_found body v.0 v.1 f);
      whole = whole ∙ ap (λ (x : List ℕ). take a s ++ (take v.1 body ++ (take c behind ++ x))) (sym cut);
      start = omega arith;
      end = omega arith;
      len = omega arith;
    }

-- an element that is found is spelled so
pub element_found : (s : List ℕ) (e : Element) → e.len ≤ length s → element_of s ≡ Some e → IsElementOf s e
unfolding element_of
element_found s e within f = element_at_found s (number_of (drop (prefix_len is_space s) s)) e within refl f

-- a number before what separates it is found
pub number_only : (v r : List ℕ) → IsNumber v → Separates r → (k : ValueKind) × (number_of (v ++ r) ≡ Some (k, length v))
number_only v r (inl i) h = (Integer, number_integer v r i h)
number_only v r (inr i) h = (Real, number_real v r i h)

-- spaces before what separates
spaces_separate : (spaces r : List ℕ) → IsSpaces spaces → Separates r → Separates (spaces ++ r)
spaces_separate [] r a h = h
spaces_separate (b ∷ spaces) r a h = inl (eqb-true b 32 (and_parts (eqb b 32) _ a).0)

-- the element of these parts
abbrev pub made_element : List ℕ → List ℕ → List ℕ → Element
made_element before number after = record {
  start = length before;
  end = length before + length number;
  len = length before + length number + length after;
}

-- an element that is spelled so is found
pub element_only : (before number after r : List ℕ) → IsSpaces before → IsNumber number → IsSpaces after → Separates r → Stops is_space r
    → element_of (before ++ (number ++ (after ++ r))) ≡ Some (made_element before number after)
unfolding element_of
element_only before number after r b n a h t =
    let found = number_only number (after ++ r) n (spaces_separate after r a h) in
    let start : prefix_len is_space (before ++ (number ++ (after ++ r))) ≡ length before =
    prefix_len-front is_space before (number ++ (after ++ r)) b (begins_stops _ (begins_number number (after ++ r) n)) in
    let cut : drop (length before) (before ++ (number ++ (after ++ r))) ≡ number ++ (after ++ r) = drop-append_seam before (number ++ (after ++ r)) in
    let behind : drop (length number) (number ++ (after ++ r)) ≡ after ++ r = drop-append_seam number (after ++ r) in
    let gap : prefix_len is_space (after ++ r) ≡ length after = prefix_len-front is_space after r a t in
    rw (start, cut, found.1, behind, gap) refl
