-- The part of a list that passes a test at its end.
use Rattle.std.proofs.Common.{◌≡◌, ℕ, ◌+◌, Bool, true, List, [], ◌∷◌, ◌++◌, length, drop, take, refl, sym, ◌∙◌, ap, arith, inl, inr, reverse}
use Rattle.std.specs.List.{prefix_len, suffix_len, list_all}
use Rattle.std.proofs.lemmas.List.{take-append-drop, reverse-append, reverse-reverse, length-reverse}
use Rattle.std.proofs.lemmas.List.Folds.{list_all-append, length-prefix_len}
use Rattle.std.proofs.lemmas.Bool.{and_parts, and_from, cases_Bool, cond-true, cond-false}
use Rattle.fits_value.proofs.FrontLemmas.{Stops, prefix_len-front, prefix_passes, prefix_stops}

-- a list that passes does so backwards
all_reversed : (p : ℕ → Bool) (s : List ℕ) → list_all p s ≡ true → list_all p (reverse s) ≡ true
all_reversed p [] h = refl
all_reversed p (b ∷ s) h =
    let both = and_parts (p b) (list_all p s) h in
    let flipped : reverse (b ∷ s) ≡ reverse s ++ b ∷ [] = reverse-append (b ∷ []) s in
    ap (λ (x : List ℕ). list_all p x) flipped ∙ (list_all-append p (reverse s) (b ∷ []) ∙ and_from _ _ (all_reversed p s both.1) (and_from _ _ both.0 refl))

-- a list is what is left without its end, and the end that passes
pub record Trims (p : ℕ → Bool) (s : List ℕ) : Type 0 where
  pub front : List ℕ
  pub back : List ℕ
  pub whole : s ≡ front ++ back
  pub passes : list_all p back ≡ true
  pub stops : suffix_len p front ≡ 0
  pub size : suffix_len p s ≡ length back

-- nothing passes where the list stops
stops_zero : (p : ℕ → Bool) (s : List ℕ) → Stops p s → prefix_len p s ≡ 0
stops_zero p [] h = refl
stops_zero p (b ∷ s) h = cond-false (p b) _ _ h

-- the list stops where nothing passes
zero_stops : (p : ℕ → Bool) (s : List ℕ) → prefix_len p s ≡ 0 → Stops p s
zero_stops p [] h = tt
zero_stops p (b ∷ s) h = elim (cases_Bool (p b)) [
  | inl e ↦ let x : 1 + prefix_len p s ≡ 0 = sym (cond-true (p b) (1 + prefix_len p s) 0 e) ∙ h in absurd (omega arith)
  | inr e ↦ e
]

-- each list has these parts
pub trims : (p : ℕ → Bool) (s : List ℕ) → Trims p s
trims p s =
    let k = prefix_len p (reverse s) in
    let r = reverse s in
    record {
      front = reverse (drop k r);
      back = reverse (take k r);
      whole = sym (reverse-reverse s) ∙ (ap (λ (x : List ℕ). reverse x) (sym (take-append-drop k r)) ∙ reverse-append (take k r) (drop k r));
      passes = all_reversed p (take k r) (prefix_passes p r);
      stops = rw (reverse-reverse (drop k r)) (stops_zero p (drop k r) (prefix_stops p r));
      size = rw (length-reverse (take k r)) (sym (length-prefix_len p r));
    }

-- an end that passes, after a prefix that ends in nothing that does
pub suffix_len-back : (p : ℕ → Bool) (front back : List ℕ) → suffix_len p front ≡ 0 → list_all p back ≡ true → suffix_len p (front ++ back) ≡ length back
suffix_len-back p front back f b =
    ap (λ (x : List ℕ). prefix_len p x) (reverse-append front back) ∙ (prefix_len-front p (reverse back) (reverse front) (all_reversed p back b) (zero_stops p (reverse front) f) ∙ length-reverse back)
