-- The plain lines that one line stands for, put together.
use Rattle.std.proofs.Common.{◌≡◌, ℕ, ◌+◌, suc, List, [], ◌∷◌, ◌++◌, length, Option, refl, ap, sym, ◌∙◌, append_assoc, subst}
use Rattle.std.specs.Prelude.{Result, Ok, Err}
use Rattle.std.specs.declared.alloc.Global.{Global}
use Rattle.std.specs.declared.vec.Vec.{Vec}
use Rattle.std.proofs.lemmas.List.{append-nil}
use Rattle.fits_passing.specs.File.{FileParts}
use Rattle.fits_extended.specs.Stands.{both, for_each, lines_in, said_in, with_number, with_numbers}
use Rattle.fits_extended.specs.declared.unmet.Unmet.{Unmet}

-- lines, and then others
pub lines_in-append : (xs ys : List (Vec ℕ Global)) → lines_in (xs ++ ys) ≡ lines_in xs ++ lines_in ys
lines_in-append [] ys = refl
lines_in-append (x ∷ xs) ys = ap (λ t. x.items ∷ t) (lines_in-append xs ys)

-- as many
pub length-lines_in : (xs : List (Vec ℕ Global)) → length (lines_in xs) ≡ length xs
length-lines_in [] = refl
length-lines_in (x ∷ xs) = ap suc (length-lines_in xs)

-- so one more is added
pub lines_in-more : (xs new : List (Vec ℕ Global)) (line : Vec ℕ Global) → new ≡ xs ++ line ∷ [] → lines_in new ≡ lines_in xs ++ (line.items ∷ [])
lines_in-more xs new line is = ap lines_in is ∙ lines_in-append xs (line ∷ [])

-- and all of others
pub lines_in-both : (xs ys new : List (Vec ℕ Global)) → new ≡ xs ++ ys → lines_in new ≡ lines_in xs ++ lines_in ys
lines_in-both xs ys new is = ap lines_in is ∙ lines_in-append xs ys

-- what a line stands for in so many HDUs and one more
pub for_each-next : (file : FileParts) (verb : List ℕ) (rest : Option (List ℕ)) (count more h : ℕ) → count ≡ suc more
    → for_each file verb rest count h ≡ both (said_in file (with_number verb h rest)) (for_each file verb rest more (h + 1))
unfolding for_each
for_each-next file verb rest count more h is = ap (λ n. for_each file verb rest n h) is

-- in none
pub for_each-none : (file : FileParts) (verb : List ℕ) (rest : Option (List ℕ)) (count h : ℕ) → count ≡ 0 → for_each file verb rest count h ≡ Ok []
unfolding for_each
for_each-none file verb rest count h is = ap (λ n. for_each file verb rest n h) is

-- the lines of one HDU come after those before
pub both_next : (lines new : List (List ℕ)) (said others total : Result (List (List ℕ)) Unmet)
    → both (Ok lines) (both said others) ≡ total → both (Ok lines) said ≡ Ok new → both (Ok new) others ≡ total
both_next lines new (Err why) others total is added = absurd (cc)
both_next lines new (Ok said) (Ok others) total is added =
    let e : lines ++ said ≡ new = cc in
    ap (λ t. Ok (t ++ others)) (sym e) ∙ ap Ok (append_assoc lines said others) ∙ is
both_next lines new (Ok said) (Err why) total is added = is

-- unless what is wanted of it isn't so
pub both_unmet : (lines : List (List ℕ)) (said others total : Result (List (List ℕ)) Unmet) (why : Unmet)
    → both (Ok lines) (both said others) ≡ total → said ≡ Err why → Err why ≡ total
both_unmet lines said others total why is unmet = sym (ap (λ s. both (Ok lines) (both s others)) unmet) ∙ is

-- and none come after the last
pub both_last : (lines : List (List ℕ)) (others total : Result (List (List ℕ)) Unmet) → both (Ok lines) others ≡ total → others ≡ Ok [] → Ok lines ≡ total
both_last lines others total is none = ap Ok (sym (append-nil lines)) ∙ sym (ap (both (Ok lines)) none) ∙ is

-- the query of one HDU more is put to those before it
pub with_numbers-more : (verb : List ℕ) (rest : Option (List ℕ)) (count more h : ℕ) (lines new : List (Vec ℕ Global)) (line : Vec ℕ Global) (all : List (List ℕ)) → count ≡ suc more
    → new ≡ lines ++ line ∷ [] → line.items ≡ with_number verb h rest → lines_in lines ++ with_numbers verb rest count h ≡ all → lines_in new ++ with_numbers verb rest more (h + 1) ≡ all
unfolding with_numbers
with_numbers-more verb rest count more h lines new line all is added one so_far =
    ap (λ t. t ++ with_numbers verb rest more (h + 1)) (lines_in-more lines new line added)
    ∙ append_assoc (lines_in lines) (line.items ∷ []) (with_numbers verb rest more (h + 1))
    ∙ ap (λ t. lines_in lines ++ (t ∷ with_numbers verb rest more (h + 1))) one
    ∙ ap (λ n. lines_in lines ++ with_numbers verb rest n h) (sym is) ∙ so_far

-- of no HDU more
pub with_numbers-last : (verb : List ℕ) (rest : Option (List ℕ)) (count h : ℕ) (lines : List (Vec ℕ Global)) (all : List (List ℕ)) → count ≡ 0
    → lines_in lines ++ with_numbers verb rest count h ≡ all → lines_in lines ≡ all
unfolding with_numbers
with_numbers-last verb rest count h lines all none so_far =
    sym (append-nil (lines_in lines)) ∙ ap (λ n. lines_in lines ++ with_numbers verb rest n h) (sym none) ∙ so_far
