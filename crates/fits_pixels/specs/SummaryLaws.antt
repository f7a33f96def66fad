-- Why the three kinds of summary keep the laws.
use Rattle.std.specs.Prelude.{◌≡◌, ◌<◌, ℕ, ◌+◌, ◌%◌, ◌^◌, ℤ, pos, ◌+ℤ◌, Option, Some, None, refl, FitsSigned}
use Rattle.std.specs.Int.{int_min, int_max, int_wrap, w128}
use Rattle.std.proofs.Common.{arith, ap, sym, ◌∙◌}
use Rattle.std.proofs.lemmas.Int.{ints, clamps, int_wrap_fits, int_wrap-add_left, int_wrap-add_right, SFits-int_wrap}
use Rattle.std.proofs.Math.Nat.{mod-add-mod, add-mod-mod, mod-eq_of_lt, mod-lt}
use Rattle.fits_pixels.specs.declared.word_summary.WordSummary.{WordSummary}
use Rattle.fits_pixels.specs.declared.pixel_summary.PixelSummary.{PixelSummary}
use Rattle.fits_pixels.specs.Summary.{SummaryLaws, added, sum_added, lesser, greater, word_unit, words_joined, WordFits, pixel_unit, pixels_joined, PixelFits, side_by_side, halves_joined, HalvesFit}

-- ---- numbers added with the carry left out

-- the order of three sums is free
added_assoc : (a b c : ℕ) → added (added a b) c ≡ added a (added b c)
added_assoc a b c = mod-add-mod (a + b) (2 ^ 64) c ∙ ap (λ n. n % 2 ^ 64) (omega arith) ∙ sym (add-mod-mod a (b + c) (2 ^ 64))

-- a sum is a number of 64 bits
added_fits : (a b : ℕ) → added a b < 2 ^ 64
added_fits a b = mod-lt (a + b) (omega arith)

-- 0 and a number
added_left : (a : ℕ) → a < 2 ^ 64 → added 0 a ≡ a
added_left a h = ap (λ n. n % 2 ^ 64) (omega arith) ∙ mod-eq_of_lt h

-- a number and 0
added_right : (a : ℕ) → a < 2 ^ 64 → added a 0 ≡ a
added_right a h = ap (λ n. n % 2 ^ 64) (omega arith) ∙ mod-eq_of_lt h

-- the order of three sums is free
sum_assoc : (a b c : ℤ) → sum_added (sum_added a b) c ≡ sum_added a (sum_added b c)
sum_assoc a b c = int_wrap-add_left w128 (a +ℤ b) c ∙ ap (int_wrap w128) (omega (arith, ints)) ∙ sym (int_wrap-add_right w128 a (b +ℤ c))

-- 0 and a number
sum_left : (a : ℤ) → FitsSigned w128 a → sum_added (pos 0) a ≡ a
sum_left a h = ap (int_wrap w128) (omega (arith, ints)) ∙ int_wrap_fits w128 a h

-- a number and 0
sum_right : (a : ℤ) → FitsSigned w128 a → sum_added a (pos 0) ≡ a
sum_right a h = ap (int_wrap w128) (omega (arith, ints)) ∙ int_wrap_fits w128 a h

-- ---- word totals

-- a summary by its total
word_of : ℕ → WordSummary
word_of n = record { total = n }

-- sums of words keep the laws
pub word_laws : SummaryLaws word_unit words_joined WordFits
unfolding word_of
word_laws = record {
  unit_fits = omega arith;
  join_fits = λ x y p q. added_fits x.total y.total;
  left_unit = λ x h. ap word_of (added_left x.total h);
  right_unit = λ x h. ap word_of (added_right x.total h);
  assoc = λ x y z. ap word_of (added_assoc x.total y.total z.total);
}

-- ---- the lesser and the greater

-- the least of three
int_min_assoc : (a b c : ℤ) → int_min (int_min a b) c ≡ int_min a (int_min b c)
int_min_assoc a b c = omega (arith, ints, clamps)

-- the greatest of three
int_max_assoc : (a b c : ℤ) → int_max (int_max a b) c ≡ int_max a (int_max b c)
int_max_assoc a b c = omega (arith, ints, clamps)

-- beside a missing number
lesser_right : (a : Option ℤ) → lesser a None ≡ a
lesser_right None = refl
lesser_right (Some a) = refl

-- the order of three doesn't count
pub lesser_assoc : (a b c : Option ℤ) → lesser (lesser a b) c ≡ lesser a (lesser b c)
lesser_assoc None b c = refl
lesser_assoc (Some a) None c = refl
lesser_assoc (Some a) (Some b) None = refl
lesser_assoc (Some a) (Some b) (Some c) = ap Some (int_min_assoc a b c)

-- beside a missing number
greater_right : (a : Option ℤ) → greater a None ≡ a
greater_right None = refl
greater_right (Some a) = refl

-- the order of three doesn't count
pub greater_assoc : (a b c : Option ℤ) → greater (greater a b) c ≡ greater a (greater b c)
greater_assoc None b c = refl
greater_assoc (Some a) None c = refl
greater_assoc (Some a) (Some b) None = refl
greater_assoc (Some a) (Some b) (Some c) = ap Some (int_max_assoc a b c)

-- ---- statistics

-- summaries of pixels are alike where their five numbers are
pub same_pixels : (d d' b b' : ℕ) (l l' g g' : Option ℤ) (s s' : ℤ) → d ≡ d' → b ≡ b' → l ≡ l' → g ≡ g' → s ≡ s'
    → (let x : PixelSummary = record { defined = d; blank = b; least = l; greatest = g; sum = s } in x)
    ≡ record { defined = d'; blank = b'; least = l'; greatest = g'; sum = s' }
same_pixels d d' b b' l l' g g' s s' p q r t u = cc

-- summaries of pixels keep the laws
pub pixel_laws : SummaryLaws pixel_unit pixels_joined PixelFits
pixel_laws = record {
  unit_fits = record { defined = omega arith; blank = omega arith; sum = omega (arith, ints) };
  join_fits = λ x y p q. record { defined = added_fits x.defined y.defined; blank = added_fits x.blank y.blank; sum = SFits-int_wrap w128 (x.sum +ℤ y.sum) };
  left_unit = λ x h. same_pixels _ _ _ _ _ _ _ _ _ _ (added_left x.defined h.defined) (added_left x.blank h.blank) refl refl (sum_left x.sum h.sum);
  right_unit = λ x h. same_pixels _ _ _ _ _ _ _ _ _ _ (added_right x.defined h.defined) (added_right x.blank h.blank) (lesser_right x.least) (greater_right x.greatest) (sum_right x.sum h.sum);
  assoc = λ x y z. same_pixels _ _ _ _ _ _ _ _ _ _ (added_assoc x.defined y.defined z.defined) (added_assoc x.blank y.blank z.blank) (lesser_assoc x.least y.least z.least) (greater_assoc x.greatest y.greatest z.greatest) (sum_assoc x.sum y.sum z.sum);
}

-- ---- two summaries side by side

-- pairs are alike where their halves are
pub same_both : {A B : Type 0} (a a' : A) (b b' : B) → a ≡ a' → b ≡ b' → side_by_side a b ≡ side_by_side a' b'
same_both a a' b b' p q = cc

-- a pair keeps the laws that its halves keep
pub both_laws : {A B : Type 0} {e : A} {f : B} {j : A → A → A} {k : B → B → B} {p : A → Type 0} {q : B → Type 0}
    → SummaryLaws e j p → SummaryLaws f k q → SummaryLaws (side_by_side e f) (halves_joined j k) (HalvesFit p q)
both_laws l m = record {
  unit_fits = (l.unit_fits, m.unit_fits);
  join_fits = λ x y h i. (l.join_fits x.first y.first h.0 i.0, m.join_fits x.second y.second h.1 i.1);
  left_unit = λ x h. same_both _ _ _ _ (l.left_unit x.first h.0) (m.left_unit x.second h.1);
  right_unit = λ x h. same_both _ _ _ _ (l.right_unit x.first h.0) (m.right_unit x.second h.1);
  assoc = λ x y z. same_both _ _ _ _ (l.assoc x.first y.first z.first) (m.assoc x.second y.second z.second);
}
