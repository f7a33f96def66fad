-- Statistics of numbers, and of the same numbers each with an offset.
use Rattle.std.proofs.Common.{◌≡◌, ◌≤◌, ℕ, suc, ◌^◌, List, [], ◌∷◌, length, map, refl, arith, sym, ◌∙◌, ap, subst, Option, Some, None, ℤ, pos, negsuc, FitsSigned, to_z, of_z}
use Rattle.std.specs.Prelude.{◌+ℤ◌, ◌*ℤ◌, unsigned_abs, not}
use Rattle.std.specs.Int.{w128, int_min, int_max}
use Rattle.std.specs.Option.{option_map}
use Rattle.std.proofs.Math.Nat.{mul-le-mul}
use Rattle.std.proofs.lemmas.Int.{ints, to_z-of_z, fits_signed_mul, fits_signed_from_abs, unsigned_abs-mul}
use Rattle.std.proofs.lemmas.List.{length-map}
use Rattle.fits_pixels.specs.declared.value_summary.ValueSummary.{ValueSummary}
use Rattle.fits_pixels.specs.Summary.{lesser, greater}
use Rattle.fits_pixels.specs.Statistics.{is_blank, defined_numbers, sum_of, least_of, greatest_of, AllFit64, statistics, OffsetIsExact}
use Rattle.fits_pixels.proofs.ExactLemmas.{abs_add, short, sum_bound}

-- the lesser of two moves with both
min_moved : (a b o : ℤ) → int_min (a +ℤ o) (b +ℤ o) ≡ int_min a b +ℤ o
min_moved a b o = grind (arith, ints)

-- the greater of two moves with both
max_moved : (a b o : ℤ) → int_max (a +ℤ o) (b +ℤ o) ≡ int_max a b +ℤ o
max_moved a b o = grind (arith, ints)

-- the least with one number more
lesser_moved : (o x : ℤ) (m : Option ℤ) → lesser (Some (x +ℤ o)) (option_map (λ y. y +ℤ o) m) ≡ option_map (λ y. y +ℤ o) (lesser (Some x) m)
lesser_moved o x None = refl
lesser_moved o x (Some y) = ap Some (min_moved x y o)

-- the greatest with one number more
greater_moved : (o x : ℤ) (m : Option ℤ) → greater (Some (x +ℤ o)) (option_map (λ y. y +ℤ o) m) ≡ option_map (λ y. y +ℤ o) (greater (Some x) m)
greater_moved o x None = refl
greater_moved o x (Some y) = ap Some (max_moved x y o)

-- the least of all
least_moved : (o : ℤ) (ds : List ℤ) → option_map (λ x. x +ℤ o) (least_of ds) ≡ least_of (map (λ x. x +ℤ o) ds)
least_moved o [] = refl
least_moved o (d ∷ ds) = sym (lesser_moved o d (least_of ds)) ∙ ap (lesser (Some (d +ℤ o))) (least_moved o ds)

-- the greatest of all
greatest_moved : (o : ℤ) (ds : List ℤ) → option_map (λ x. x +ℤ o) (greatest_of ds) ≡ greatest_of (map (λ x. x +ℤ o) ds)
greatest_moved o [] = refl
greatest_moved o (d ∷ ds) = sym (greater_moved o d (greatest_of ds)) ∙ ap (greater (Some (d +ℤ o))) (greatest_moved o ds)

-- once more
pub times_more : (n : ℕ) (o : ℤ) → pos (suc n) *ℤ o ≡ o +ℤ pos n *ℤ o
times_more n (pos m) = grind (arith, ints)
times_more n (negsuc m) = grind (arith, ints)

-- none at all
pub times_none : (o : ℤ) → pos 0 *ℤ o ≡ pos 0
times_none (pos m) = grind (arith, ints)
times_none (negsuc m) = grind (arith, ints)

-- the sum of all
sum_moved : (o : ℤ) (ds : List ℤ) → sum_of ds +ℤ pos (length ds) *ℤ o ≡ sum_of (map (λ x. x +ℤ o) ds)
sum_moved o [] = omega (arith, ints, times_none o)
sum_moved o (d ∷ ds) = omega (arith, ints, times_more (length ds) o, sum_moved o ds)

-- summaries with the same fields
same_values : (d d' b b' : ℕ) (l l' g g' : Option ℤ) (s s' : ℤ) → d ≡ d' → b ≡ b' → l ≡ l' → g ≡ g' → s ≡ s'
    → (let x : ValueSummary = record { defined = d; blank = b; least = l; greatest = g; sum = s } in x)
    ≡ record { defined = d'; blank = b'; least = l'; greatest = g'; sum = s' }
same_values d d' b b' l l' g g' s s' p q r t u = cc

-- the statistics of the values
pub offset_is_exact : OffsetIsExact
offset_is_exact o blank xs =
    let ds : List ℤ = defined_numbers blank xs in
    same_values _ _ _ _ _ _ _ _ _ _ (sym (length-map ds (λ x. x +ℤ o))) refl (least_moved o ds) (greatest_moved o ds) (sum_moved o ds)

-- what statistics of few numbers are small enough for
pub record Small (blank : Option ℤ) (xs : List ℤ) : Type 0 where
  pub few : (statistics blank xs).defined ≤ 2 ^ 62
  pub sum : unsigned_abs (statistics blank xs).sum ≤ 2 ^ 125

-- they are, where the numbers are of 64 bits
pub statistics_small : (blank : Option ℤ) (xs : List ℤ) → AllFit64 xs → length xs ≤ 2 ^ 62 → Small blank xs
statistics_small blank xs f few = record {
  few = omega (arith, short (λ y. not (is_blank blank y)) xs, few);
  sum = omega (arith, sum_bound blank xs f, few);
}

-- a sum moved by a count of offsets, as the machine computes it
pub record Moved (s : ℤ) (n : ℕ) (o : ℤ) : Type 0 where
  pub product_fits : FitsSigned w128 (to_z w128 n *ℤ to_z w128 (of_z w128 o))
  pub sum_fits : FitsSigned w128 (to_z w128 (of_z w128 s) +ℤ to_z w128 (of_z w128 (to_z w128 n *ℤ to_z w128 (of_z w128 o))))
  pub is : to_z w128 (of_z w128 (to_z w128 (of_z w128 s) +ℤ to_z w128 (of_z w128 (to_z w128 n *ℤ to_z w128 (of_z w128 o))))) ≡ s +ℤ pos n *ℤ o

-- by the numbers' bounds
pub moved : (s : ℤ) (n : ℕ) (o : ℤ) → FitsSigned w128 s → FitsSigned w128 o → n ≤ 2 ^ 62 → unsigned_abs s ≤ 2 ^ 125 → unsigned_abs o ≤ 2 ^ 63 → Moved s n o
moved s n o f g few sum offset =
    let count : to_z w128 n ≡ pos n = to_z-of_z w128 (pos n) (omega (arith, ints, few)) in
    let times : to_z w128 n *ℤ to_z w128 (of_z w128 o) ≡ pos n *ℤ o = ap (λ z. z *ℤ to_z w128 (of_z w128 o)) count ∙ ap (λ z. pos n *ℤ z) (to_z-of_z w128 o g) in
    let product : FitsSigned w128 (pos n *ℤ o) = fits_signed_mul w128 (pos n) o (2 ^ 62) (2 ^ 63) few offset (omega arith) in
    let all : to_z w128 (of_z w128 s) +ℤ to_z w128 (of_z w128 (to_z w128 n *ℤ to_z w128 (of_z w128 o))) ≡ s +ℤ pos n *ℤ o
    = ap (λ z. z +ℤ to_z w128 (of_z w128 (to_z w128 n *ℤ to_z w128 (of_z w128 o)))) (to_z-of_z w128 s f) ∙ ap (λ z. s +ℤ to_z w128 (of_z w128 z)) times ∙ ap (λ z. s +ℤ z) (to_z-of_z w128 (pos n *ℤ o) product) in
    let small : FitsSigned w128 (s +ℤ pos n *ℤ o) = fits_signed_from_abs w128 (s +ℤ pos n *ℤ o) (omega (arith, abs_add s (pos n *ℤ o), unsigned_abs-mul (pos n) o, mul-le-mul few offset, sum)) in
    let fits = subst (FitsSigned w128) (sym all) small in
    record { product_fits = subst (FitsSigned w128) (sym times) product; sum_fits = fits; is = to_z-of_z w128 _ fits ∙ all }
