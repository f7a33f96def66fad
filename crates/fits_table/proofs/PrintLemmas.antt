-- Names that are one have one number.
use Rattle.std.proofs.Common.{◌≡◌, ℕ, ◌+◌, ◌<◌, ◌≤◌, ◌||◌, Bool, true, false, List, [], ◌∷◌, length, drop, get_or, Option, None, Some, refl, ap, sym, ◌∙◌, suc, arith, inl, inr}
use Rattle.std.specs.Prelude.{◌&&◌, not}
use Rattle.std.specs.Char.{to_ascii_lowercase}
use Rattle.std.specs.List.{list_all, list_any}
use Rattle.std.specs.Str.{bytes_eq}
use Rattle.std.proofs.Math.Seq.{drop-cons}
use Rattle.std.proofs.lemmas.Bool.{and_parts, cases_Bool}
use Rattle.std.proofs.lemmas.List.{drop_all}
use Rattle.std.proofs.lemmas.Slice.Eq.{bytes_eq-Decides}
use Rattle.fits_value.specs.Characters.{is_space}
use Rattle.fits_table.specs.Marks.{is_marked, is_name_marked}
use Rattle.fits_table.specs.Name.{are_one, is_one_name, lowered}
use Rattle.fits_table.specs.Print.{print_from, print_of, print_of_title, print_with}

-- both hold
second : (a b : Bool) → (a && b) ≡ true → b ≡ true
second true b e = e
second false b e = cc

-- names that are one have one number
same_print : (one other : Option (List ℕ)) → are_one one other ≡ true → print_of_title one ≡ print_of_title other
unfolding is_one_name
same_print None other e = cc
same_print (Some one) None e = cc
same_print (Some one) (Some other) e =
    let d = bytes_eq-Decides (lowered one) (lowered other) in
    ap print_of (d.0 (second (not (list_all is_space one)) (bytes_eq (lowered one) (lowered other)) e))

-- so names that have two aren't one
pub apart : (one other : Option (List ℕ)) (a b : ℕ) → a ≡ print_of_title one → b ≡ print_of_title other → (a ≡ b → ⊥) → false ≡ are_one one other
apart one other a b is be differ = elim (cases_Bool (are_one one other)) [
  | inl alike ↦ absurd (differ (is ∙ (same_print one other alike ∙ sym be)))
  | inr no_twin ↦ sym no_twin
]

pub ruleset print_steps = (apart)

-- a name whose number isn't marked isn't one that is
unmarked : (marks : List Bool) (other name : Option (List ℕ)) → is_name_marked marks other ≡ true → is_marked marks (print_of_title name) ≡ false → are_one other name ≡ false
unmarked marks None name marked fails = refl
unmarked marks (Some text) name marked fails = elim (cases_Bool (are_one (Some text) name)) [
  | inl alike ↦
      let clash : true ≡ false = sym marked ∙ (ap (is_marked marks) (same_print (Some text) name alike) ∙ fails) in
      cc
  | inr no_twin ↦ no_twin
]

-- nor one of those that are
pub none_marked : (marks : List Bool) (names : List (Option (List ℕ))) (name : Option (List ℕ)) (number : ℕ) → number ≡ print_of_title name → list_all (is_name_marked marks) names ≡ true → is_marked marks number ≡ false → list_any (λ other. are_one other name) names ≡ false
none_marked marks [] name number is all fails = refl
none_marked marks (other ∷ names) name number is all fails =
    let both = and_parts (is_name_marked marks other) (list_all (is_name_marked marks) names) all in
    ap (λ b. b || list_any (λ other. are_one other name) names) (unmarked marks other name both.0 (ap (is_marked marks) (sym is) ∙ fails))
    ∙ none_marked marks names name number is both.1 fails

-- the number so far, and that of what follows
pub print_next : (text : List ℕ) (i d print : ℕ) → i < length text → print_from print (lowered (drop i text)) ≡ print_of (lowered text)
    → print_from (print_with print (to_ascii_lowercase (get_or text i d))) (lowered (drop (i + 1) text)) ≡ print_of (lowered text)
print_next text i d print within is =
    let next : suc i ≡ i + 1 = omega arith in
    sym (ap (λ t. print_from print (lowered t)) (drop-cons text i d within ∙ ap (λ k. get_or text i d ∷ drop k text) next)) ∙ is

-- nothing follows
pub print_all : (text : List ℕ) (i print : ℕ) → length text ≤ i → print_from print (lowered (drop i text)) ≡ print_of (lowered text) → print ≡ print_of (lowered text)
print_all text i print past is = sym (ap (λ t. print_from print (lowered t)) (drop_all i text past)) ∙ is

pub ruleset number_steps = (print_next, print_all)
