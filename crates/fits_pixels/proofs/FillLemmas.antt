-- Data fill, piece by piece.
use Rattle.std.proofs.Common.{◌≡◌, ℕ, ◌+◌, ◌-◌, Bool, true, false, nat_eq, List, ◌++◌, length, drop, drop_of_length-le, All, ap, sym, ◌∙◌, arith, refl, inl, inr}
use Rattle.std.specs.Prelude.{◌&&◌, ◌↔◌, IsTrue, min}
use Rattle.std.specs.List.{list_all}
use Rattle.std.proofs.lemmas.Bool.{cases_Bool, cases_lt}
use Rattle.std.proofs.lemmas.Bool.Decides.{nat_tests}
use Rattle.std.proofs.lemmas.List.{drop-append-le}
use Rattle.std.proofs.lemmas.List.Folds.{list_all-append}
use Rattle.std.proofs.lemmas.List.Sums.{AllPass-from_list_all, list_all-from_AllPass}
use Rattle.std.proofs.Math.Seq.{drop-append-add}

-- the test of bytes that should all be the same
pub are_all : (ok : Bool) (byte : ℕ) (bytes : List ℕ) → (IsTrue ok ↔ All (λ b. b ≡ byte) bytes) → ok ≡ list_all (nat_eq byte) bytes
are_all true byte bytes is =
    sym (list_all-from_AllPass (nat_eq byte) bytes (λ k d l. let same = is.0 refl k d l in grind (arith, nat_tests)))
are_all false byte bytes is =
    elim (cases_Bool (list_all (nat_eq byte) bytes)) [
      | inl holds ↦ let no : false ≡ true = is.1 (λ k d l. let same = AllPass-from_list_all (nat_eq byte) bytes holds k d l in grind (arith, nat_tests)) in absurd (cc)
      | inr fails ↦ sym fails
    ]

-- past the end nothing is left
pub drop-min : (n : ℕ) (xs : List ℕ) → drop (min n (length xs)) xs ≡ drop n xs
drop-min n xs =
    elim (cases_lt n (length xs)) [
      | inl lt ↦ ap (λ k. drop k xs) {y = n} (omega arith)
      | inr le ↦ drop_of_length-le xs {i = min n (length xs)} (omega arith) ∙ sym (drop_of_length-le xs {i = n} le)
    ]

-- what lies past some bytes of two lists end to end
pub drop-append : (n : ℕ) (xs ys : List ℕ) → drop n (xs ++ ys) ≡ drop n xs ++ drop (n - length xs) ys
drop-append n xs ys =
    elim (cases_lt n (length xs)) [
      | inl lt ↦ drop-append-le n xs ys (omega arith) ∙ ap (λ k. drop n xs ++ drop k ys) {x = 0} (omega arith)
      | inr le ↦
          let past : drop n (xs ++ ys) ≡ drop (n - length xs) ys = ap (λ k. drop k (xs ++ ys)) {y = length xs + (n - length xs)} (omega arith) ∙ drop-append-add xs ys (n - length xs) in
          past ∙ ap (λ t. t ++ drop (n - length xs) ys) (sym (drop_of_length-le xs {i = n} le))
    ]

-- the fill of a piece after others
pub filled-append : (fill used : ℕ) (xs ys : List ℕ) → list_all (nat_eq fill) (drop used (xs ++ ys)) ≡ (list_all (nat_eq fill) (drop used xs) && list_all (nat_eq fill) (drop (used - length xs) ys))
filled-append fill used xs ys = ap (list_all (nat_eq fill)) (drop-append used xs ys) ∙ list_all-append (nat_eq fill) (drop used xs) (drop (used - length xs) ys)
