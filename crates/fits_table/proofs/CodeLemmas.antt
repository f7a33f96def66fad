-- The codes of a mark, one after the other.
use Rattle.std.proofs.Common.{◌≡◌, ℕ, ◌+◌, ◌<◌, Bool, true, false, List, [], ◌∷◌, ◌++◌, length, take, get_or, ap, sym, ◌∙◌}
use Rattle.std.specs.Prelude.{filter}
use Rattle.std.proofs.lemmas.Bool.{cond-true, cond-false}
use Rattle.std.proofs.lemmas.List.{append-nil}
use Rattle.std.proofs.lemmas.List.Elements.{filter_more}

-- one that is there
pub code_more : {X : Type 0} (p : X → Bool) (all codes new : List X) (i : ℕ) (d : X) → i < length all → p (get_or all i d) ≡ true → codes ≡ filter p (take i all) → new ≡ codes ++ get_or all i d ∷ [] → new ≡ filter p (take (i + 1) all)
code_more p all codes new i d within holds before is =
    is ∙ ap (λ t. t ++ get_or all i d ∷ []) before ∙ sym (filter_more p all i d within ∙ ap (λ t. filter p (take i all) ++ t) (cond-true (p (get_or all i d)) (get_or all i d ∷ []) [] holds))

-- and one that isn't
pub code_none : {X : Type 0} (p : X → Bool) (all codes : List X) (i : ℕ) (d : X) → i < length all → p (get_or all i d) ≡ false → codes ≡ filter p (take i all) → codes ≡ filter p (take (i + 1) all)
code_none p all codes i d within fails before =
    before ∙ sym (append-nil (filter p (take i all))) ∙ sym (filter_more p all i d within ∙ ap (λ t. filter p (take i all) ++ t) (cond-false (p (get_or all i d)) (get_or all i d ∷ []) [] fails))
