-- What is kept of all pieces, joined.
use Rattle.std.proofs.Common.{◌≡◌, ◌≤◌, ◌<◌, ◌+◌, ◌-◌, ◌*◌, ◌%◌, ◌^◌, ℕ, suc, List, Option, ℤ, [], ◌∷◌, ◌++◌, length, slice_index, get_or, min, take, drop, refl, arith, sym, ◌∙◌, ap, subst, inl, inr, ◌⊎◌}
use Rattle.std.proofs.Math.Nat.{mod-eq_of_lt}
use Rattle.std.proofs.lemmas.Bool.{cases_lt}
use Rattle.std.proofs.lemmas.List.{drop_all, length-drop, take_all}
use Rattle.fits_sum.specs.Words.{word_total}
use Rattle.fits_sum.proofs.WordLemmas.{word_total-part}
use Rattle.fits_pixels.specs.declared.pixel_summary.PixelSummary.{PixelSummary}
use Rattle.fits_pixels.specs.declared.word_summary.WordSummary.{WordSummary}
use Rattle.fits_pixels.specs.declared.both.Both.{Both}
use Rattle.fits_pixels.specs.Summary.{all_joined, pixels_joined, words_joined, halves_joined}
use Rattle.fits_pixels.specs.Statistics.{statistics, AllFit64}
use Rattle.fits_pixels.specs.Pixels.{pixels, IsWidth}
use Rattle.fits_pixels.specs.Block.{held}
use Rattle.fits_pixels.proofs.PixelLemmas.{pixels-append, length-pixels}
use Rattle.fits_pixels.proofs.StatisticsLemmas.{pixels_fit, statistics-append, next}
use Rattle.fits_plane.specs.Leaves.{leaf_unit}

-- what is kept of a piece
abbrev Leaf : Type 0
Leaf = Both PixelSummary WordSummary

-- both parts joined
abbrev leaves_joined : Leaf → Leaf → Leaf
leaves_joined x y = halves_joined pixels_joined words_joined x y

-- leaf k is that of the pixels of the piece k places on, each of so many but the last
abbrev pub HavePixels : ℕ → Option ℤ → ℕ → ℕ → List ℕ → List Leaf → ℕ → Type 0
HavePixels w blank n per xs ls a = (k : ℕ) → k < length ls → (get_or ls k leaf_unit).first ≡ statistics blank (pixels w xs ((a + k) * per) (held per n (a + k)))

-- the leaves joined have the statistics of all pixels from the first piece's on
pub pixels_from : (w : ℕ) (blank : Option ℤ) (n per : ℕ) (xs : List ℕ) → (w ≡ 0) ⊎ IsWidth w → (w ≡ 0 → n ≡ 0) → ((k : ℕ) → slice_index xs k < 256) → n < 2 ^ 62
    → (ls : List Leaf) (a : ℕ) → HavePixels w blank n per xs ls a
    → (all_joined leaf_unit leaves_joined ls).first ≡ statistics blank (pixels w xs (a * per) (min (length ls * per) (n - a * per)))
pixels_from w blank n per xs h none b small [] a f =
    let few : min (0 * per) (n - a * per) ≡ 0 = omega arith in
    ap (λ m. statistics blank (pixels w xs (a * per) m)) (sym few)
pixels_from w blank n per xs h none b small (x ∷ ls) a f =
    let m : ℕ = held per n a in
    let rest : ℕ = min (length ls * per) (n - (a + 1) * per) in
    let here : x.first ≡ statistics blank (pixels w xs (a * per) m) = f 0 (omega arith) ∙ (let e : a + 0 ≡ a = omega arith in ap (λ i. statistics blank (pixels w xs (i * per) (held per n i))) e) in
    let ih = pixels_from w blank n per xs h none b small ls (a + 1) (λ k l. f (suc k) (omega arith) ∙ (let e : a + suc k ≡ a + 1 + k = omega arith in ap (λ i. statistics blank (pixels w xs (i * per) (held per n i))) e)) in
    let ps = pixels w xs (a * per) m in
    let qs = pixels w xs ((a + 1) * per) rest in
    let whole : min (length (x ∷ ls) * per) (n - a * per) ≡ m + rest = omega arith in
    let cut : pixels w xs (a * per) (m + rest) ≡ ps ++ qs = pixels-append w (a * per) m rest xs ∙ ap (λ ys. ps ++ ys) (next w (a * per) m rest ((a + 1) * per) xs (elim (cases_lt (n - a * per) per) [ inl lt ↦ inl (omega (arith, lt)) | inr ge ↦ inr (omega (arith, ge)) ])) in
    let fit_ps = pixels_fit w xs (a * per) m h (λ z. omega (arith, none z)) b in
    let fit_qs = pixels_fit w xs ((a + 1) * per) rest h (λ z. omega (arith, none z)) b in
    let fit_all : AllFit64 (ps ++ qs) = subst AllFit64 cut (pixels_fit w xs (a * per) (m + rest) h (λ z. omega (arith, none z)) b) in
    let joined = statistics-append blank ps qs fit_ps fit_qs fit_all (omega (arith, length-pixels w (a * per) m xs, small)) (omega (arith, length-pixels w ((a + 1) * per) rest xs, small))
    (omega (arith, ap length cut, length-pixels w (a * per) (m + rest) xs, small)) in
    ap (λ y. pixels_joined y (all_joined leaf_unit leaves_joined ls).first) here ∙ ap (pixels_joined (statistics blank ps)) ih
    ∙ joined ∙ ap (statistics blank) (sym cut) ∙ ap (λ k. statistics blank (pixels w xs (a * per) k)) (sym whole)

-- the words from a byte on are those of a part of 4q bytes, or less at the end, and those behind it
word_total-cut : (q i j : ℕ) (xs : List ℕ) → j ≡ i + 4 * q → word_total (drop i xs) ≡ word_total (take (4 * q) (drop i xs)) + word_total (drop j xs)
word_total-cut q i j xs e = elim (cases_lt (length xs) j) [
  | inl short ↦
      let all : take (4 * q) (drop i xs) ≡ drop i xs = take_all (4 * q) (drop i xs) (omega (arith, length-drop i xs, short, e)) in
      let none : word_total (drop j xs) ≡ 0 = ap word_total (drop_all j xs (omega (arith, short))) in
      omega (arith, ap word_total all, none)
  | inr room ↦ word_total-part q xs i (4 * q) j refl e room
]

-- the leaves joined have the total of all words from the first piece's on, each of 4q bytes but the last
pub words_from : (q : ℕ) (xs : List ℕ) (ls : List Leaf) (a : ℕ) → ((k : ℕ) → k < length ls → (get_or ls k leaf_unit).second.total ≡ word_total (take (4 * q) (drop (4 * q * (a + k)) xs)))
    → length xs ≤ 4 * q * (a + length ls) → word_total (drop (4 * q * a) xs) < 2 ^ 64 → (all_joined leaf_unit leaves_joined ls).second.total ≡ word_total (drop (4 * q * a) xs)
words_from q xs [] a f e small = let z : 4 * q * (a + 0) ≡ 4 * q * a = omega arith in ap word_total (sym (drop_all (4 * q * a) xs (omega (arith, e, z))))
words_from q xs (x ∷ ls) a f e small =
    let here : x.second.total ≡ word_total (take (4 * q) (drop (4 * q * a) xs)) = f 0 (omega arith) ∙ (let z : a + 0 ≡ a = omega arith in ap (λ i. word_total (take (4 * q) (drop (4 * q * i) xs))) z) in
    let next : 4 * q * (a + 1) ≡ 4 * q * a + 4 * q = omega arith in
    let cut = word_total-cut q (4 * q * a) (4 * q * (a + 1)) xs next in
    let all : 4 * q * (a + suc (length ls)) ≡ 4 * q * (a + 1 + length ls) = (let z : a + suc (length ls) ≡ a + 1 + length ls = omega arith in ap (λ i. 4 * q * i) z) in
    let ih = words_from q xs ls (a + 1) (λ k l. f (suc k) (omega arith) ∙ (let z : a + suc k ≡ a + 1 + k = omega arith in ap (λ i. word_total (take (4 * q) (drop (4 * q * i) xs))) z)) (omega (arith, e, all)) (omega (arith, small, cut)) in
    ap (λ y. (y + (all_joined leaf_unit leaves_joined ls).second.total) % 2 ^ 64) here
    ∙ ap (λ y. (word_total (take (4 * q) (drop (4 * q * a) xs)) + y) % 2 ^ 64) ih ∙ ap (λ y. y % 2 ^ 64) (sym cut) ∙ mod-eq_of_lt small
