-- A text has the dimensions that it is read as.
use Rattle.std.proofs.Common.{◌≡◌, ℕ, ◌≤◌, ◌<◌, ◌+◌, ◌-◌, ◌==◌, ◌&&◌, true, leb, suc, List, [], ◌∷◌, ◌++◌, length, take, get_or, Option, None, Some, option_and_then, inl, inr, refl, ap, sym, subst, ◌∙◌, arith, length-append}
use Rattle.std.specs.Prelude.{codes, slice_index}
use Rattle.std.specs.List.{slice_split}
use Rattle.std.specs.Option.{option_map}
use Rattle.std.proofs.Math.Seq.{get_or-append_seam, take-append_seam}
use Rattle.std.proofs.lemmas.Bool.{and_parts, leb-true, le-leb, eqb-true}
use Rattle.std.proofs.lemmas.List.{take_more, take_all}
use Rattle.std.proofs.lemmas.Option.{option_and_then_some}
use Rattle.fits_value.proofs.FrontLemmas.{chosen, option_map_some}
use Rattle.fits_value.specs.Says.{inner}
use Rattle.fits_table.specs.Dimensions.{is_comma, AreNumerals, AreDimensions, numerals, bracketed, dimensions_of}
use Rattle.fits_table.specs.Laws.{DimensionsAreReadExactly}
use Rattle.fits_table.specs.Numeral.{numeral}
use Rattle.fits_table.proofs.NumeralLaws.{numeral_read, numeral_found}

-- numbers are read
numerals_read : (texts : List (List ℕ)) (sizes : List ℕ) → AreNumerals texts sizes → numerals texts ≡ Some sizes
numerals_read [] [] are = refl
numerals_read [] (size ∷ sizes) are = absurd are
numerals_read (text ∷ texts) [] are = absurd are
numerals_read (text ∷ texts) (size ∷ sizes) are =
    ap (option_and_then (λ number. option_map (λ numbers. number ∷ numbers) (numerals texts))) (numeral_read text size are.0)
    ∙ ap (option_map (λ numbers. size ∷ numbers)) (numerals_read texts sizes are.1)

-- what is read are numbers
numerals_found : (texts : List (List ℕ)) (sizes : List ℕ) → numerals texts ≡ Some sizes → AreNumerals texts sizes
numerals_found [] sizes e = let none : [] ≡ sizes = cc in subst (AreNumerals []) none tt
numerals_found (text ∷ texts) sizes e =
    option_and_then_some (λ number. option_map (λ numbers. number ∷ numbers) (numerals texts)) (numeral text) sizes e (λ size is more.
    let found = option_map_some (λ numbers. size ∷ numbers) (numerals texts) sizes more in
    subst (AreNumerals (text ∷ texts)) found.2 (numeral_found text size is, numerals_found texts found.0 found.1))

-- what stands in brackets is found
brackets_read : (inside : List ℕ) → bracketed (40 ∷ inside ++ 41 ∷ []) ≡ Some inside
unfolding bracketed
brackets_read inside =
    let size : length (40 ∷ inside ++ 41 ∷ []) ≡ suc (suc (length inside)) = let sum = length-append inside (41 ∷ []) in omega (arith, sum) in
    let last : suc (suc (length inside)) - 1 ≡ suc (length inside) = omega arith in
    let two : suc (suc (length inside)) - 2 ≡ length inside = omega arith in
    let long : leb 2 (suc (suc (length inside))) ≡ true = le-leb 2 (suc (suc (length inside))) (omega arith) in
    let closes : get_or (inside ++ 41 ∷ []) (length inside) 0 ≡ 41 = get_or-append_seam inside 41 [] 0 in
    rw (size, last, two, long, closes) (ap Some (take-append_seam inside (41 ∷ [])))

-- what is found stands in brackets
brackets_found : (text inside : List ℕ) → bracketed text ≡ Some inside → text ≡ codes "(" ++ inside ++ codes ")"
unfolding bracketed
brackets_found [] inside e = absurd (let none : ◌≡◌ {A = Option (List ℕ)} None (Some inside) = e in cc)
brackets_found (first ∷ rest) inside e =
    elim (chosen (leb 2 (length (first ∷ rest)) && (slice_index (first ∷ rest) 0 == 40) && (slice_index (first ∷ rest) (length (first ∷ rest) - 1) == 41)) (Some (inner (first ∷ rest))) None (Some inside) e) [
      | inl is ↦
          let parts = and_parts _ _ is.0 in
          let begins = and_parts _ _ parts.0 in
          let long : 2 ≤ length (first ∷ rest) = leb-true 2 (length (first ∷ rest)) begins.0 in
          let opens : first ≡ 40 = eqb-true first 40 begins.1 in
          let at : length (first ∷ rest) - 1 ≡ suc (length rest - 1) = omega (arith, long) in
          let closes : get_or rest (length rest - 1) 0 ≡ 41 = sym (ap (slice_index (first ∷ rest)) at) ∙ eqb-true _ 41 parts.1 in
          let two : length (first ∷ rest) - 2 ≡ length rest - 1 = omega (arith, long) in
          let same : inner (first ∷ rest) ≡ inside = (let some : ◌≡◌ {A = Option (List ℕ)} (Some (inner (first ∷ rest))) (Some inside) = is.1 in cc) in
          let front : take (length rest - 1) rest ≡ inside = sym (ap (λ n. take n rest) two) ∙ same in
          let most : length rest ≤ length rest - 1 + 1 = omega arith in
          let within : length rest - 1 < length rest = omega (arith, long) in
          let whole : rest ≡ take (length rest - 1) rest ++ get_or rest (length rest - 1) 0 ∷ [] = sym (take_all (length rest - 1 + 1) rest most) ∙ take_more rest (length rest - 1) 0 within in
          ap (λ (byte : ℕ). byte ∷ rest) opens ∙ ap (λ (behind : List ℕ). 40 ∷ behind) (whole ∙ (ap (λ (xs : List ℕ). xs ++ get_or rest (length rest - 1) 0 ∷ []) front ∙ ap (λ (byte : ℕ). inside ++ byte ∷ []) closes))
      | inr other ↦ absurd (let none : ◌≡◌ {A = Option (List ℕ)} None (Some inside) = other.1 in cc)
    ]

-- dimensions are read
dimensions_read : (text sizes : List ℕ) → AreDimensions text sizes → dimensions_of text ≡ Some sizes
unfolding dimensions_of
dimensions_read text sizes are =
    ap dimensions_of are.parts
    ∙ (ap (option_and_then (λ inside. numerals (slice_split is_comma inside))) (brackets_read are.inside)
    ∙ numerals_read (slice_split is_comma are.inside) sizes are.are)

-- what is read are dimensions
dimensions_found : (text sizes : List ℕ) → dimensions_of text ≡ Some sizes → AreDimensions text sizes
unfolding dimensions_of
dimensions_found text sizes e =
    option_and_then_some (λ inside. numerals (slice_split is_comma inside)) (bracketed text) sizes e (λ inside is are.
    record { inside = inside; are = numerals_found (slice_split is_comma inside) sizes are; parts = brackets_found text inside is })

-- both
pub dimensions : DimensionsAreReadExactly
dimensions text sizes = (dimensions_read text sizes, dimensions_found text sizes)
