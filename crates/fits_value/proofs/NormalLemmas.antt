-- The normal form of a text by its length without the spaces at its end.
use Rattle.std.proofs.Common.{◌≡◌, ℕ, ◌<◌, ◌≤◌, ◌+◌, ◌-◌, ◌&&◌, true, false, ltb, List, [], ◌∷◌, ◌++◌, length, take, drop, min, refl, sym, ◌∙◌, ap, arith, inl, inr, length-append}
use Rattle.std.specs.List.{list_all, suffix_len}
use Rattle.std.proofs.lemmas.Bool.{cases_Bool, and_parts, and_from, cond-true, cond-false, eqb-true, lt-ltb}
use Rattle.std.proofs.lemmas.List.{take-append-drop, drop-drop, drop_at, nil_from_length}
use Rattle.std.proofs.lemmas.List.Folds.{list_all-append}
use Rattle.fits_value.proofs.TrimLemmas.{trims, suffix_len-back}
use Rattle.fits_value.specs.Spelling.{is_space}
use Rattle.fits_value.specs.Text.{normal_form, trimmed}

-- a text that is spaces to its end
all_spaces : (text : List ℕ) → suffix_len is_space text ≡ length text → list_all is_space text ≡ true
all_spaces text e =
    let t = trims is_space text in
    let size : length text ≡ length t.front + length t.back = ap length t.whole ∙ length-append t.front t.back in
    let none : t.front ≡ [] = nil_from_length t.front (omega (arith, size, e, t.size)) in
    let is : text ≡ t.back = t.whole ∙ ap (λ (x : List ℕ). x ++ t.back) none in
    ap (λ (x : List ℕ). list_all is_space x) is ∙ t.passes

-- the first of spaces
first_space : (text : List ℕ) → 0 < length text → list_all is_space text ≡ true → take 1 text ≡ 32 ∷ []
first_space [] n h = absurd (omega arith)
first_space (b ∷ s) n h = ap (λ (x : ℕ). x ∷ []) (eqb-true b 32 (and_parts (is_space b) (list_all is_space s) h).0)

-- spaces alone are one space
normal_form-spaces : (text : List ℕ) (n : ℕ) → n + suffix_len is_space text ≡ length text → n ≡ 0 → 0 < length text → take 1 text ≡ normal_form text
normal_form-spaces text n e z h =
    let all = all_spaces text (omega arith) in
    first_space text h all ∙ sym (cond-true (ltb 0 (length text) && list_all is_space text) _ _ (and_from _ _ (lt-ltb 0 (length text) h) all))

-- a text without its trailing spaces
trimmed-length : (text : List ℕ) (n : ℕ) → n + suffix_len is_space text ≡ length text → take n text ≡ trimmed text
trimmed-length text n e = ap (λ (k : ℕ). take k text) (omega arith)

-- a text of spaces alone, or of nothing
pub normal_form-none : (text : List ℕ) (n k : ℕ) → n + suffix_len is_space text ≡ length text → n ≡ 0 → k ≡ min (length text) 1 → take k text ≡ normal_form text
normal_form-none [] n k e z m = rw m refl
normal_form-none (b ∷ s) n k e z m =
    let one : k ≡ 1 = omega arith in
    ap (λ (i : ℕ). take i (b ∷ s)) one ∙ normal_form-spaces (b ∷ s) n e z (omega arith)

-- another text loses its trailing spaces
pub normal_form-other : (text : List ℕ) (n : ℕ) → n + suffix_len is_space text ≡ length text → (n ≡ 0 → ⊥) → take n text ≡ normal_form text
normal_form-other text n e h =
    let off : (ltb 0 (length text) && list_all is_space text) ≡ false = elim (cases_Bool (ltb 0 (length text) && list_all is_space text)) [
      | inl t ↦
          let all : list_all is_space text ≡ true = (and_parts (ltb 0 (length text)) (list_all is_space text) t).1 in
          let size : suffix_len is_space text ≡ length text = suffix_len-back is_space [] text refl all in
          absurd (h (omega (arith, size, e)))
      | inr f ↦ f
    ] in
    trimmed-length text n e ∙ sym (cond-false (ltb 0 (length text) && list_all is_space text) _ _ off)

-- the rest of a list whose elements all pass
rest_passes : (text : List ℕ) (n : ℕ) → list_all is_space text ≡ true → list_all is_space (drop n text) ≡ true
rest_passes text n all =
    let both : (list_all is_space (take n text) && list_all is_space (drop n text)) ≡ true = sym (list_all-append is_space (take n text) (drop n text)) ∙ (ap (λ (x : List ℕ). list_all is_space x) (take-append-drop n text) ∙ all) in
    (and_parts (list_all is_space (take n text)) (list_all is_space (drop n text)) both).1

-- spaces alone stand after a text without its trailing spaces
pub spaces_behind : (text : List ℕ) (n k : ℕ) → n + suffix_len is_space text ≡ length text → n ≤ k → list_all is_space (drop k text) ≡ true
spaces_behind text n k e within =
    let t = trims is_space text in
    let size : length text ≡ length t.front + length t.back = ap length t.whole ∙ length-append t.front t.back in
    let behind : drop n text ≡ t.back = ap (λ (x : List ℕ). drop n x) t.whole ∙ drop_at t.front t.back n (omega (arith, size, e, t.size)) in
    let all : list_all is_space (drop n text) ≡ true = ap (λ (x : List ℕ). list_all is_space x) behind ∙ t.passes in
    let place : n + (k - n) ≡ k = omega arith in
    ap (λ (i : ℕ). list_all is_space (drop i text)) (sym place) ∙ (ap (λ (x : List ℕ). list_all is_space x) (sym (drop-drop (k - n) n text)) ∙ rest_passes (drop n text) (k - n) all)
