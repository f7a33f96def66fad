-- A part of a summary, exchanged for another.
use Rattle.std.proofs.Common.{◌≡◌, ◌<◌, ◌^◌, ℕ, ℤ, Option, Some, None, refl, arith, sym, ◌∙◌, ap}
use Rattle.std.specs.Prelude.{◌+ℤ◌, ◌-ℤ◌}
use Rattle.std.specs.Int.{int_min, int_max, int_wrap, w128}
use Rattle.std.proofs.lemmas.Int.{ints, clamps, int_wrap-add_left, int_wrap-add_right}
use Rattle.fits_pixels.specs.declared.pixel_summary.PixelSummary.{PixelSummary}
use Rattle.fits_pixels.specs.declared.word_summary.WordSummary.{WordSummary}
use Rattle.fits_pixels.specs.declared.both.Both.{Both}
use Rattle.fits_pixels.specs.Summary.{added, sum_added, lesser, greater, pixels_joined, words_joined}
use Rattle.fits_pixels.specs.SummaryLaws.{same_pixels, same_both, lesser_assoc, greater_assoc}
use Rattle.fits_pixels.proofs.StatisticsLemmas.{word_leaf}
use Rattle.fits_plane.specs.Exchange.{taken, sum_taken, pixels_without, words_without, IsExchanged}

-- ---- counts and sums

-- a count with a part exchanged
taken_added : (b g a c : ℕ) → g < 2 ^ 64 → added (taken (added b (added g a)) g) c ≡ added b (added c a)
taken_added b g a c h = omega (arith, h)

-- a sum with a part exchanged
sum_exchanged : (b g a c : ℤ) → sum_added (sum_taken (sum_added b (sum_added g a)) g) c ≡ sum_added b (sum_added c a)
sum_exchanged b g a c =
    let all : sum_added b (sum_added g a) ≡ int_wrap w128 (b +ℤ (g +ℤ a)) = int_wrap-add_right w128 b (g +ℤ a) in
    let turn : int_wrap w128 (b +ℤ (g +ℤ a)) -ℤ g +ℤ c ≡ int_wrap w128 (b +ℤ (g +ℤ a)) +ℤ (c -ℤ g) = omega (arith, ints) in
    let rest : b +ℤ (g +ℤ a) +ℤ (c -ℤ g) ≡ b +ℤ (c +ℤ a) = omega (arith, ints) in
    int_wrap-add_left w128 (sum_added b (sum_added g a) -ℤ g) c
    ∙ ap (λ z. int_wrap w128 (z -ℤ g +ℤ c)) all ∙ ap (int_wrap w128) turn
    ∙ int_wrap-add_left w128 (b +ℤ (g +ℤ a)) (c -ℤ g) ∙ ap (int_wrap w128) rest ∙ sym (int_wrap-add_right w128 b (c +ℤ a))

-- ---- the least and the greatest

-- of two it doesn't count which comes first
lesser_comm : (a b : Option ℤ) → lesser a b ≡ lesser b a
lesser_comm None None = refl
lesser_comm None (Some b) = refl
lesser_comm (Some a) None = refl
lesser_comm (Some a) (Some b) = let e : int_min a b ≡ int_min b a = omega (arith, ints, clamps) in ap Some e

-- of two it doesn't count which comes first
greater_comm : (a b : Option ℤ) → greater a b ≡ greater b a
greater_comm None None = refl
greater_comm None (Some b) = refl
greater_comm (Some a) None = refl
greater_comm (Some a) (Some b) = let e : int_max a b ≡ int_max b a = omega (arith, ints, clamps) in ap Some e

-- the last of three, moved to the middle
lesser_turn : (b a x : Option ℤ) → lesser (lesser b a) x ≡ lesser b (lesser x a)
lesser_turn b a x = lesser_assoc b a x ∙ ap (lesser b) (lesser_comm a x)

-- the last of three, moved to the middle
greater_turn : (b a x : Option ℤ) → greater (greater b a) x ≡ greater b (greater x a)
greater_turn b a x = greater_assoc b a x ∙ ap (greater b) (greater_comm a x)

-- ---- a whole summary

-- pixels with a part exchanged, where the least and the greatest are known
pixels_exchanged : (all gone come before after : PixelSummary) → gone.defined < 2 ^ 64 → gone.blank < 2 ^ 64
    → ((rest : Option ℤ) → all.least ≡ lesser rest gone.least → lesser all.least come.least ≡ lesser rest come.least)
    → ((rest : Option ℤ) → all.greatest ≡ greater rest gone.greatest → greater all.greatest come.greatest ≡ greater rest come.greatest)
    → all ≡ pixels_joined before (pixels_joined gone after) → pixels_joined (pixels_without all gone) come ≡ pixels_joined before (pixels_joined come after)
pixels_exchanged all gone come before after d b low high e = same_pixels _ _ _ _ _ _ _ _ _ _
    (ap (λ z. added (taken z.defined gone.defined) come.defined) e ∙ taken_added before.defined gone.defined after.defined come.defined d)
    (ap (λ z. added (taken z.blank gone.blank) come.blank) e ∙ taken_added before.blank gone.blank after.blank come.blank b)
    (low (lesser before.least after.least) (ap (λ z. z.least) e ∙ sym (lesser_turn before.least after.least gone.least)) ∙ lesser_turn before.least after.least come.least)
    (high (greater before.greatest after.greatest) (ap (λ z. z.greatest) e ∙ sym (greater_turn before.greatest after.greatest gone.greatest)) ∙ greater_turn before.greatest after.greatest come.greatest)
    (ap (λ z. sum_added (sum_taken z.sum gone.sum) come.sum) e ∙ sum_exchanged before.sum gone.sum after.sum come.sum)

-- words with a part exchanged
words_exchanged : (all gone come before after : WordSummary) → gone.total < 2 ^ 64 → all ≡ words_joined before (words_joined gone after)
    → words_joined (words_without all gone) come ≡ words_joined before (words_joined come after)
words_exchanged all gone come before after h e =
    word_leaf _ _ (ap (λ z. added (taken z.total gone.total) come.total) e ∙ taken_added before.total gone.total after.total come.total h)

-- what is kept of a block, with a part exchanged
pub leaves_exchanged : (all gone come new : Both PixelSummary WordSummary) → gone.first.defined < 2 ^ 64 → gone.first.blank < 2 ^ 64 → gone.second.total < 2 ^ 64
    → ((rest : Option ℤ) → all.first.least ≡ lesser rest gone.first.least → lesser all.first.least come.first.least ≡ lesser rest come.first.least)
    → ((rest : Option ℤ) → all.first.greatest ≡ greater rest gone.first.greatest → greater all.first.greatest come.first.greatest ≡ greater rest come.first.greatest)
    → new.first ≡ pixels_joined (pixels_without all.first gone.first) come.first → new.second ≡ words_joined (words_without all.second gone.second) come.second → IsExchanged all gone come new
leaves_exchanged all gone come new d b t low high p q = λ before after e. same_both _ _ _ _
    (p ∙ pixels_exchanged all.first gone.first come.first before.first after.first d b low high (ap (λ z. z.first) e))
    (q ∙ words_exchanged all.second gone.second come.second before.second after.second t (ap (λ z. z.second) e))
