-- Names that are one where case is ignored, and that stand twice.
use Rattle.std.proofs.Common.{◌≡◌, ℕ, ◌+◌, ◌<◌, ◌≤◌, ◌||◌, Bool, true, false, List, [], ◌∷◌, ◌++◌, length, take, get_or, Option, refl, ap, sym, ◌∙◌}
use Rattle.std.specs.List.{list_any}
use Rattle.std.proofs.lemmas.List.{take_all, take_more}
use Rattle.std.specs.Prelude.{IsTrue, ◌↔◌, map}
use Rattle.std.specs.Char.{to_ascii_lowercase}
use Rattle.std.specs.Cmp.{both_ways}
use Rattle.std.specs.Str.{bytes_eq}
use Rattle.std.proofs.lemmas.Slice.Eq.{bytes_eq-Decides}
use Rattle.fits_table.specs.Name.{are_one, has_twins, lowered}
use Rattle.fits_table.proofs.ColumnsLemmas.{any_more}

-- a test that is true where the small letters are the same
pub same_in_lower : (b : Bool) (one other : List ℕ) → IsTrue b ↔ (map to_ascii_lowercase one ≡ map to_ascii_lowercase other) → b ≡ bytes_eq (lowered one) (lowered other)
same_in_lower b one other h =
    let d = bytes_eq-Decides (lowered one) (lowered other) in
    both_ways b (bytes_eq (lowered one) (lowered other)) (λ e. d.1 (h.0 e)) (λ e. h.1 (d.0 e))

pub ruleset name_steps = (same_in_lower)

-- two tests change places
change_places : (a b t c : Bool) → (a || b || (t || c)) ≡ (a || t || (b || c))
change_places true b t c = refl
change_places false true true c = refl
change_places false true false c = refl
change_places false false t c = refl

-- one name more is twice there, or it is that of another
twins_push : (names : List (Option (List ℕ))) (name : Option (List ℕ)) → has_twins (names ++ name ∷ []) ≡ (has_twins names || list_any (λ other. are_one other name) names)
unfolding has_twins
twins_push [] name = refl
twins_push (first ∷ names) name =
    ap (λ b. b || has_twins (names ++ name ∷ [])) (sym (any_more (are_one first) names name))
    ∙ (ap (λ b. list_any (are_one first) names || are_one first name || b) (twins_push names name)
    ∙ change_places (list_any (are_one first) names) (are_one first name) (has_twins names) (list_any (λ other. are_one other name) names))

-- no names are none
pub no_twins : (names : List (Option (List ℕ))) → false ≡ has_twins (take 0 names)
unfolding has_twins
no_twins names = refl

-- the next name is that of one before it
pub twins_more : (names : List (Option (List ℕ))) (i : ℕ) (name : Option (List ℕ)) (found : Bool) → i < length names → found ≡ has_twins (take i names)
    → (found || list_any (λ other. are_one other (get_or names i name)) (take i names)) ≡ has_twins (take (i + 1) names)
twins_more names i name found within is =
    ap (λ b. b || list_any (λ other. are_one other (get_or names i name)) (take i names)) is
    ∙ sym (ap has_twins (take_more names i name within) ∙ twins_push (take i names) (get_or names i name))

-- as it is found
pub twins_step : (names : List (Option (List ℕ))) (i : ℕ) (name : Option (List ℕ)) (before : List (Option (List ℕ))) (found here : Bool) → i < length names → name ≡ get_or names i name → before ≡ take i names
    → here ≡ list_any (λ other. are_one other name) before → found ≡ has_twins (take i names) → (found || here) ≡ has_twins (take (i + 1) names)
twins_step names i name before found here within at front is so_far =
    ap (λ b. found || b) (is ∙ ap (list_any (λ other. are_one other name)) front ∙ ap (λ one. list_any (λ other. are_one other one) (take i names)) at)
    ∙ twins_more names i name found within so_far

-- at the end they are all
pub twins_all : (names : List (Option (List ℕ))) (i : ℕ) (found : Bool) → length names ≤ i → found ≡ has_twins (take i names) → found ≡ has_twins names
twins_all names i found past is = is ∙ ap has_twins (take_all i names past)

pub ruleset twin_steps = (twins_all)
