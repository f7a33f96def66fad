-- The statistics of two runs of pixels are joined to those of both.
use Rattle.std.proofs.Common.{◌≡◌, ◌<◌, ◌+◌, ◌*◌, ◌^◌, ℕ, zero, suc, List, [], ◌∷◌, ◌++◌, length, refl, arith, sym, ◌∙◌, ap, subst, slice_index, map, inl, inr, ◌⊎◌, ℤ, pos, Bool, true, false, cond, Some, None, Option, FitsSigned}
use Rattle.std.specs.Int.{w64, w128}
use Rattle.std.proofs.lemmas.Bool.Decides.{nat_tests}
use Rattle.std.proofs.lemmas.Int.{ints}
use Rattle.std.proofs.lemmas.List.{map-append}
use Rattle.fits_pixels.specs.Summary.{SummaryLaws, all_joined, pixel_unit, pixels_joined, PixelFits}
use Rattle.byteorder.specs.Endian.{big_from, twos_complement}
use Rattle.byteorder.specs.Numbers.{big_from-lt}
use Rattle.fits_pixels.specs.declared.word_summary.WordSummary.{WordSummary}
use Rattle.fits_pixels.specs.SummaryLaws.{pixel_laws}
use Rattle.fits_pixels.specs.Statistics.{is_blank, statistics, number_summary, AllFit64}
use Rattle.fits_pixels.specs.Pixels.{pixels, stored_number, IsWidth}
use Rattle.fits_pixels.proofs.ExactLemmas.{joined_is_exact}
use Rattle.fits_pixels.proofs.PixelLemmas.{by_width}

-- lists of summaries, one after the other
module _ {S : Type 0} {unit : S} {join : S → S → S} {fits : S → Type 0} (laws : SummaryLaws unit join fits) where
  pub all_joined-append : (xs ys : List S) → fits (all_joined unit join ys) → all_joined unit join (xs ++ ys) ≡ join (all_joined unit join xs) (all_joined unit join ys)
  all_joined-append [] ys f = sym (laws.left_unit (all_joined unit join ys) f)
  all_joined-append (x ∷ xs) ys f = ap (join x) (all_joined-append xs ys f) ∙ sym (laws.assoc x (all_joined unit join xs) (all_joined unit join ys))

-- word summaries are alike where their totals are
pub word_leaf : (t u : ℕ) → t ≡ u → (let x : WordSummary = record { total = t } in x) ≡ record { total = u }
word_leaf t u e = cc

-- a number of 8 bits fits 64
fit_1 : (n : ℕ) → n < 256 → FitsSigned w64 (pos n)
fit_1 n h = omega (arith, ints, h)

-- a number of 16 bits fits 64
fit_2 : (n : ℕ) → n < 65536 → FitsSigned w64 (twos_complement 2 n)
fit_2 n h = grind (arith, ints, nat_tests)

-- a number of 32 bits fits 64
fit_4 : (n : ℕ) → n < 2 ^ 32 → FitsSigned w64 (twos_complement 4 n)
fit_4 n h = grind (arith, ints, nat_tests)

-- a number of 64 bits fits 64
fit_8 : (n : ℕ) → n < 2 ^ 64 → FitsSigned w64 (twos_complement 8 n)
fit_8 n h = grind (arith, ints, nat_tests)

-- a stored number is a signed one of 64 bits
pub stored_fits : (w n : ℕ) → IsWidth w → n < 256 ^ w → FitsSigned w64 (stored_number w n)
stored_fits w n h = by_width (λ w. n < 256 ^ w → FitsSigned w64 (stored_number w n)) (λ b. fit_1 n (omega (arith, b))) (λ b. fit_2 n (omega (arith, b))) (λ b. fit_4 n (omega (arith, b))) (λ b. fit_8 n (omega (arith, b))) w h

-- the pixels of a width fit
all_fit : (w : ℕ) (xs : List ℕ) (a n : ℕ) → IsWidth w → ((k : ℕ) → slice_index xs k < 256) → AllFit64 (pixels w xs a n)
all_fit w xs a zero h b = tt
all_fit w xs a (suc n) h b = (stored_fits w (big_from (a * w) w xs) h (big_from-lt (a * w) w xs b), all_fit w xs (a + 1) n h b)

-- no pixels fit
no_pixels_fit : (w : ℕ) (xs : List ℕ) (a n : ℕ) → n ≡ 0 → AllFit64 (pixels w xs a n)
no_pixels_fit w xs a n e = subst (λ m. AllFit64 (pixels w xs a m)) (sym e) tt

-- the pixels are signed numbers of 64 bits
pub pixels_fit : (w : ℕ) (xs : List ℕ) (a n : ℕ) → (w ≡ 0) ⊎ IsWidth w → (w ≡ 0 → n ≡ 0) → ((k : ℕ) → slice_index xs k < 256) → AllFit64 (pixels w xs a n)
pixels_fit w xs a n h none b = elim h [ inl z ↦ no_pixels_fit w xs a n (none z) | inr h ↦ all_fit w xs a n h b ]

-- a number of 64 bits fits 128
wide : (x : ℤ) → FitsSigned w64 x → FitsSigned w128 x
wide x h = omega (arith, ints, h)

-- a pixel's summary fits
one_fits : (t : Bool) (x : ℤ) → FitsSigned w64 x → PixelFits (cond t (record { defined = 0; blank = 1; least = None; greatest = None; sum = pos 0 }) (record { defined = 1; blank = 0; least = Some x; greatest = Some x; sum = x }))
one_fits true x h = record { defined = omega arith; blank = omega arith; sum = omega (arith, ints) }
one_fits false x h = record { defined = omega arith; blank = omega arith; sum = wide x h }

-- the pixels' summaries joined fit
summaries_fit : (blank : Option ℤ) (xs : List ℤ) → AllFit64 xs → PixelFits (all_joined pixel_unit pixels_joined (map (number_summary blank) xs))
summaries_fit blank [] f = pixel_laws.unit_fits
summaries_fit blank (x ∷ xs) f = pixel_laws.join_fits _ _ (one_fits (is_blank blank x) x f.0) (summaries_fit blank xs f.1)

-- the statistics of two runs of pixels are joined to those of both
pub statistics-append : (blank : Option ℤ) (ps qs : List ℤ) → AllFit64 ps → AllFit64 qs → AllFit64 (ps ++ qs) → length ps < 2 ^ 62 → length qs < 2 ^ 62 → length (ps ++ qs) < 2 ^ 62
    → pixels_joined (statistics blank ps) (statistics blank qs) ≡ statistics blank (ps ++ qs)
statistics-append blank ps qs f g h a b c =
    let p = joined_is_exact blank ps f a in
    let q = joined_is_exact blank qs g b in
    ap (λ y. pixels_joined y (statistics blank qs)) (sym p) ∙ ap (pixels_joined (all_joined pixel_unit pixels_joined (map (number_summary blank) ps))) (sym q)
    ∙ sym (all_joined-append pixel_laws (map (number_summary blank) ps) (map (number_summary blank) qs) (summaries_fit blank qs g))
    ∙ ap (all_joined pixel_unit pixels_joined) (sym (map-append (number_summary blank) ps qs)) ∙ joined_is_exact blank (ps ++ qs) h c

-- the pixels after a whole block begin with the next block
pub next : (w p m rest q : ℕ) (xs : List ℕ) → (rest ≡ 0) ⊎ (p + m ≡ q) → pixels w xs (p + m) rest ≡ pixels w xs q rest
next w p m rest q xs h = elim h [ inl e ↦ rw e refl | inr e ↦ ap (λ k. pixels w xs k rest) e ]
