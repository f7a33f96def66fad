-- A text is cut at a byte in one way.
use Rattle.std.proofs.Common.{◌≡◌, ℕ, ◌<◌, ◌≤◌, List, [], ◌∷◌, ◌++◌, length, take, drop, get_or, refl, ap, sym, ◌∙◌, arith, inl, inr, true, zero, suc}
use Rattle.std.specs.Prelude.{◌==◌}
use Rattle.std.proofs.lemmas.Bool.{cases_Bool, eqb-true}
use Rattle.std.proofs.lemmas.List.{take-append-drop}
use Rattle.std.proofs.Math.Seq.{drop-cons}
use Rattle.fits_script.specs.Cut.{HasNo}

-- a byte that stands at none of the first places
pub HasNo-before : (b : ℕ) (text : List ℕ) (n : ℕ) → n < length text → ((k : ℕ) → 0 ≤ k → k < n → (get_or text k 0 == b) ≡ true → ⊥) → HasNo b (take n text)
HasNo-before b text zero h none = refl
HasNo-before b [] (suc n) h none = refl
HasNo-before b (c ∷ cs) (suc n) h none =
    elim (cases_Bool (c == b)) [ inl is ↦ absurd (none 0 (omega arith) (omega arith) is) | inr other ↦ rw other (HasNo-before b cs n (omega arith) (λ k low high. none (suc k) (omega arith) (omega arith))) ]

-- and one that stands at no place
pub HasNo-all : (b : ℕ) (text : List ℕ) → ((k : ℕ) → 0 ≤ k → k < length text → (get_or text k 0 == b) ≡ true → ⊥) → HasNo b text
HasNo-all b [] none = refl
HasNo-all b (c ∷ cs) none =
    elim (cases_Bool (c == b)) [ inl is ↦ absurd (none 0 (omega arith) (omega arith) is) | inr other ↦ rw other (HasNo-all b cs (λ k low high. none (suc k) (omega arith) (omega arith))) ]

-- a text is what stands before a place, the byte there, and what follows
pub cut_there : (b : ℕ) (text front back rest : List ℕ) (n : ℕ) → n < length text → (get_or text n 0 == b) ≡ true → front ≡ take n text → back ≡ drop n text → rest ≡ drop 1 back → text ≡ front ++ b ∷ rest
cut_there b text front back rest n h is f k r =
    let at : drop n text ≡ get_or text n 0 ∷ drop (suc n) text = drop-cons text n 0 h in
    let byte : get_or text n 0 ≡ b = eqb-true (get_or text n 0) b is in
    let after : rest ≡ drop (suc n) text = r ∙ ap (λ t. drop 1 t) (k ∙ at) in
    sym (take-append-drop n text) ∙ ap (λ t. take n text ++ t) (at ∙ ap (λ x. x ∷ drop (suc n) text) byte ∙ ap (λ t. b ∷ t) (sym after)) ∙ ap (λ t. t ++ b ∷ rest) (sym f)
