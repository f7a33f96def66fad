-- Which cards of two headers are matched.
use Rattle.std.proofs.Common.{◌≡◌, ℕ, ◌+◌, ◌-◌, ◌<◌, ◌≤◌, Bool, List, [], ◌∷◌, ◌++◌, length, get_or, slice_index_or, ap, sym, subst, ◌∙◌, append_assoc, inl, inr, arith}
use Rattle.std.proofs.lemmas.Bool.{cases_lt}
use Rattle.std.proofs.lemmas.List.{get_or_default}
use Rattle.std.proofs.lemmas.Slice.Eq.{bytes_eq-Decides}
use Rattle.std.specs.Prelude.{IsTrue}
use Rattle.std.specs.Str.{bytes_eq}
use Rattle.fits_diff.specs.Matching.{AreAlike, AreMatched, IsNext, lines_before, NoneNearer, TellsCards, unmatched_lines}

-- the card at an index
pub card_is : (xs : List (List ℕ)) (index : ℕ) (card : List ℕ) → index < length xs → card ≡ slice_index_or xs (index + 1 - 1) card → card ≡ get_or xs index []
card_is xs index card l is = let at : index + 1 - 1 ≡ index = omega arith in is ∙ ap (λ i. slice_index_or xs i card) at ∙ get_or_default xs index card [] l

-- a test says whether two are alike
pub alike_test : (xs ys : List (List ℕ)) (p q : ℕ) (x y : List ℕ) (b : Bool) → x ≡ get_or xs p [] → y ≡ get_or ys q [] → b ≡ bytes_eq x y → (IsTrue b → AreAlike xs ys p q) × (AreAlike xs ys p q → IsTrue b)
alike_test xs ys p q x y b e f is = (λ so. sym e ∙ (bytes_eq-Decides x y).0 (sym is ∙ so) ∙ f, λ alike. is ∙ (bytes_eq-Decides x y).1 (e ∙ alike ∙ sym f))

-- no pair of indices comes to less than the first one
pub none_begun : (xs ys : List (List ℕ)) (i j far : ℕ) → far ≡ i + j → NoneNearer xs ys i j far
none_begun xs ys i j far is s t from from_other within within_other near alike = absurd (omega arith)

-- nor do those that come to one more have such a pair
pub none_more : (xs ys : List (List ℕ)) (i j far : ℕ) → NoneNearer xs ys i j far
    → ((s : ℕ) → i ≤ s → s + j ≤ far → s < length xs → far < s + length ys → AreAlike xs ys s (far - s) → ⊥) → NoneNearer xs ys i j (far + 1)
none_more xs ys i j far before here s t from from_other within within_other near alike =
    elim (cases_lt (s + t) far) [
      | inl nearer ↦ before s t from from_other within within_other nearer alike
      | inr same ↦
          let at : t ≡ far - s = omega (arith, near, same) in
          here s from (omega (arith, near, same, from_other)) within (omega (arith, near, same, within_other)) (subst (λ k. AreAlike xs ys s k) at alike)
    ]

-- all come to less than this
pub none_all : (xs ys : List (List ℕ)) (i j far : ℕ) → length xs + length ys ≤ far → NoneNearer xs ys i j far → NoneNearer xs ys i j (length xs + length ys)
none_all xs ys i j far most before s t from from_other within within_other near alike = before s t from from_other within within_other (omega (arith, near, most)) alike

-- so far the pairs that come next are all
abbrev pub SoFar : ℕ → List (List ℕ) → List (List ℕ) → ℕ → ℕ → List ℕ → Type 0
SoFar h xs ys i j text = (pairs : List (ℕ × ℕ)) → AreMatched xs ys i j pairs → TellsCards h xs ys (text ++ unmatched_lines h xs ys i j pairs)

-- one more is
pub told_more : (h : ℕ) (xs ys : List (List ℕ)) (i j p q : ℕ) (text new : List ℕ) → SoFar h xs ys i j text → IsNext xs ys i j p q → new ≡ text ++ lines_before h xs ys i j p q → SoFar h xs ys (p + 1) (q + 1) new
told_more h xs ys i j p q text new so_far next is pairs matched =
    let rest : List ℕ = unmatched_lines h xs ys (p + 1) (q + 1) pairs in
    subst (TellsCards h xs ys) (sym (append_assoc text (lines_before h xs ys i j p q) rest) ∙ ap (λ t. t ++ rest) (sym is)) (so_far ((p, q) ∷ pairs) (next, matched))

-- all are
pub told_all : (h : ℕ) (xs ys : List (List ℕ)) (i j p q : ℕ) (text new : List ℕ) → SoFar h xs ys i j text → NoneNearer xs ys i j (length xs + length ys) → p ≡ length xs → q ≡ length ys → new ≡ text ++ lines_before h xs ys i j p q → TellsCards h xs ys new
told_all h xs ys i j p q text new so_far none end end_other is =
    let e : lines_before h xs ys i j p q ≡ lines_before h xs ys i j (length xs) (length ys) = ap (λ k. lines_before h xs ys i j k q) end ∙ ap (λ k. lines_before h xs ys i j (length xs) k) end_other in
    subst (TellsCards h xs ys) (ap (λ t. text ++ t) (sym e) ∙ sym is) (so_far [] none)

pub ruleset match_steps = (none_begun, none_more, none_all)
