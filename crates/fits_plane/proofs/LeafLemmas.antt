-- The leaves of a data unit: a block that an edit leaves alone, and all blocks together.
use Rattle.std.proofs.Common.{◌≡◌, ◌≢◌, ◌<◌, ◌≤◌, ℕ, suc, ◌+◌, ◌-◌, ◌*◌, ◌/◌, ◌%◌, ◌^◌, List, [], ◌∷◌, ◌++◌, length, slice_index, get_or, min, drop, set, arith, sym, ◌∙◌, ap, subst, inl, inr, ◌⊎◌, ℤ, false}
use Rattle.std.proofs.Math.Nat.{add-mul, div-eq_of_lt-le, mod-eq_of_lt}
use Rattle.std.proofs.lemmas.Bool.{cases_lt, false≢true}
use Rattle.std.proofs.lemmas.List.{drop_all, ext_get_or, get_or_append_left, get_or-append_right, get_or-set_same, get_or-set_other, length-take, length-drop, get_or-take, get_or-drop}
use Rattle.fits_sum.specs.Words.{word_total}
use Rattle.fits_sum.proofs.WordLemmas.{word_total-part, word_total-le}
use Rattle.fits_pixels.specs.declared.pixel_summary.PixelSummary.{PixelSummary}
use Rattle.fits_pixels.specs.declared.word_summary.WordSummary.{WordSummary}
use Rattle.fits_pixels.specs.declared.both.Both.{Both}
use Rattle.fits_pixels.specs.declared.layout.Layout.{Layout}
use Rattle.fits_pixels.specs.Summary.{all_joined, pixels_joined, words_joined, halves_joined}
use Rattle.fits_pixels.specs.SummaryLaws.{same_both}
use Rattle.fits_pixels.specs.Statistics.{statistics, AllFit64}
use Rattle.fits_pixels.specs.Pixels.{pixels, IsWidth}
use Rattle.fits_pixels.specs.Layout.{IsLayout, block_pixels}
use Rattle.fits_pixels.specs.Block.{held, leaf_of, block_of}
use Rattle.fits_pixels.proofs.PixelLemmas.{pixel-same, pixels-same, pixels-append, length-pixels, by_width}
use Rattle.fits_pixels.proofs.LayoutLemmas.{block_pixels_some, layout_room, layout_small}
use Rattle.fits_pixels.proofs.StatisticsLemmas.{word_leaf, pixels_fit, statistics-append, next}
use Rattle.fits_plane.specs.Rectangle.{product, IsWritten}
use Rattle.fits_plane.specs.Work.{is_touched}
use Rattle.fits_plane.specs.Leaves.{leaf_unit, AreLeaves}
use Rattle.fits_plane.proofs.BlockLemmas.{touched_by}

-- ---- widths and blocks

-- the pixel that a byte of block k is of lies in block k
byte_block : (w k j : ℕ) → IsWidth w → 2880 * k ≤ j → j < 2880 * k + 2880 → j / w / block_pixels w ≡ k
byte_block w k j h a b = by_width (λ w. j / w / block_pixels w ≡ k)
    (div-eq_of_lt-le 2880 (omega (arith, a, b)) (omega (arith, a, b))) (div-eq_of_lt-le 1440 (omega (arith, a, b)) (omega (arith, a, b)))
    (div-eq_of_lt-le 720 (omega (arith, a, b)) (omega (arith, a, b))) (div-eq_of_lt-le 360 (omega (arith, a, b)) (omega (arith, a, b))) w h

-- the bytes of a pixel that block k holds lie in block k
pixel_bytes : (w k x m : ℕ) → IsWidth w → x < block_pixels w → m < w → (2880 * k ≤ (k * block_pixels w + x) * w + m) × ((k * block_pixels w + x) * w + m < 2880 * k + 2880)
pixel_bytes w k x m h = by_width (λ w. x < block_pixels w → m < w → (2880 * k ≤ (k * block_pixels w + x) * w + m) × ((k * block_pixels w + x) * w + m < 2880 * k + 2880))
    (λ a b. (omega (arith, a, b), omega (arith, a, b))) (λ a b. (omega (arith, a, b), omega (arith, a, b)))
    (λ a b. (omega (arith, a, b), omega (arith, a, b))) (λ a b. (omega (arith, a, b), omega (arith, a, b))) w h

-- ---- a block that holds no pixel of a rectangle

-- its summary is as before
pub untouched_leaf : (layout : Layout) (axes lo hi : List ℕ) (number : ℕ → ℤ) (old new : List ℕ) (k : ℕ) → IsWidth layout.width → product axes ≡ layout.pixels
    → IsWritten layout.width axes lo hi number old new → is_touched axes lo hi (block_pixels layout.width) layout.pixels k ≡ false → leaf_of layout new k ≡ leaf_of layout old k
untouched_leaf layout axes lo hi number old new k h all f e =
    let w : ℕ = layout.width in
    let n : ℕ = layout.pixels in
    let per : ℕ = block_pixels w in
    let some = block_pixels_some w h in
    let byte : (j : ℕ) → 2880 * k ≤ j → j < 2880 * k + 2880 → slice_index new j ≡ slice_index old j = λ j a b. f.outside j (λ i within inside same.
    let at : i / per ≡ k = ap (λ m. m / per) same ∙ byte_block w k j h a b in
    false≢true (sym e ∙ touched_by axes lo hi per n k i some (omega (arith, within, all)) inside at)) in
    let block : block_of new k ≡ block_of old k = ext_get_or 0 (block_of new k) (block_of old k)
    (omega (arith, length-take 2880 (drop (2880 * k) new), length-take 2880 (drop (2880 * k) old), length-drop (2880 * k) new, length-drop (2880 * k) old, f.long))
    (λ i b.
    let near : i < 2880 = omega (arith, b, length-take 2880 (drop (2880 * k) new)) in
    get_or-take 2880 (drop (2880 * k) new) i 0 near ∙ get_or-drop (2880 * k) new i 0 ∙ byte (2880 * k + i) (omega arith) (omega (arith, near))
    ∙ sym (get_or-drop (2880 * k) old i 0) ∙ sym (get_or-take 2880 (drop (2880 * k) old) i 0 near)) in
    let same : pixels w new (k * per) (held per n k) ≡ pixels w old (k * per) (held per n k) = pixels-same w (k * per) (k * per) (held per n k) new old (λ x b.
    pixel-same w (k * per + x) (k * per + x) new old (λ m c.
    let near = pixel_bytes w k x m h (omega (arith, b)) c in
    byte ((k * per + x) * w + m) near.0 near.1)) in
    same_both _ _ _ _ (ap (statistics layout.blank) same) (word_leaf _ _ (ap word_total block))

-- ---- all blocks together

-- what is kept of a block
abbrev Leaf : Type 0
Leaf = Both PixelSummary WordSummary

-- both parts joined
abbrev leaves_joined : Leaf → Leaf → Leaf
leaves_joined x y = halves_joined pixels_joined words_joined x y

-- the leaves of the blocks from block a on
leaves_from : (layout : Layout) (xs : List ℕ) → (layout.width ≡ 0) ⊎ IsWidth layout.width → (layout.width ≡ 0 → layout.pixels ≡ 0) → ((k : ℕ) → slice_index xs k < 256) → layout.pixels < 2 ^ 62
    → (ls : List Leaf) (a : ℕ) → ((k : ℕ) → k < length ls → get_or ls k leaf_unit ≡ leaf_of layout xs (a + k))
    → (all_joined leaf_unit leaves_joined ls).first ≡ statistics layout.blank (pixels layout.width xs (a * block_pixels layout.width) (min (length ls * block_pixels layout.width) (layout.pixels - a * block_pixels layout.width)))
leaves_from layout xs h none b small [] a f =
    let per : ℕ = block_pixels layout.width in
    let few : min (0 * per) (layout.pixels - a * per) ≡ 0 = omega arith in
    ap (λ m. statistics layout.blank (pixels layout.width xs (a * per) m)) (sym few)
leaves_from layout xs h none b small (x ∷ ls) a f =
    let w : ℕ = layout.width in
    let n : ℕ = layout.pixels in
    let per : ℕ = block_pixels w in
    let m : ℕ = held per n a in
    let rest : ℕ = min (length ls * per) (n - (a + 1) * per) in
    let here : x ≡ leaf_of layout xs a = f 0 (omega arith) ∙ (let e : a + 0 ≡ a = omega arith in ap (leaf_of layout xs) e) in
    let ih = leaves_from layout xs h none b small ls (a + 1) (λ k l. f (suc k) (omega arith) ∙ (let e : a + suc k ≡ a + 1 + k = omega arith in ap (leaf_of layout xs) e)) in
    let ps = pixels w xs (a * per) m in
    let qs = pixels w xs ((a + 1) * per) rest in
    let whole : min (length (x ∷ ls) * per) (n - a * per) ≡ m + rest = omega arith in
    let cut : pixels w xs (a * per) (m + rest) ≡ ps ++ qs = pixels-append w (a * per) m rest xs ∙ ap (λ ys. ps ++ ys) (next w (a * per) m rest ((a + 1) * per) xs (elim (cases_lt (n - a * per) per) [ inl lt ↦ inl (omega (arith, lt)) | inr ge ↦ inr (omega (arith, ge)) ])) in
    let fit_ps = pixels_fit w xs (a * per) m h (λ z. omega (arith, none z)) b in
    let fit_qs = pixels_fit w xs ((a + 1) * per) rest h (λ z. omega (arith, none z)) b in
    let fit_all : AllFit64 (ps ++ qs) = subst AllFit64 cut (pixels_fit w xs (a * per) (m + rest) h (λ z. omega (arith, none z)) b) in
    let joined = statistics-append layout.blank ps qs fit_ps fit_qs fit_all (omega (arith, length-pixels w (a * per) m xs, small)) (omega (arith, length-pixels w ((a + 1) * per) rest xs, small))
    (omega (arith, ap length cut, length-pixels w (a * per) (m + rest) xs, small)) in
    ap (λ y. pixels_joined y (all_joined leaf_unit leaves_joined ls).first) (ap (λ z. z.first) here) ∙ ap (pixels_joined (statistics layout.blank ps)) ih
    ∙ joined ∙ ap (statistics layout.blank) (sym cut) ∙ ap (λ k. statistics layout.blank (pixels w xs (a * per) k)) (sym whole)

-- the leaves joined have the statistics of all pixels
pub leaves_statistics : (layout : Layout) (xs : List ℕ) (ls : List Leaf) → IsLayout layout xs → length xs ≡ 2880 * length ls → ((k : ℕ) → slice_index xs k < 256) → AreLeaves layout xs ls
    → (all_joined leaf_unit leaves_joined ls).first ≡ statistics layout.blank (pixels layout.width xs 0 layout.pixels)
leaves_statistics layout xs ls h e b f =
    let w : ℕ = layout.width in
    let n : ℕ = layout.pixels in
    let per : ℕ = block_pixels w in
    let small : n < 2 ^ 62 = omega (arith, layout_small layout xs h, h.limit) in
    let all = leaves_from layout xs h.width h.no_pixels b small ls 0 (λ k l. f k l ∙ (let e : k ≡ 0 + k = omega arith in ap (leaf_of layout xs) e)) in
    let start : 0 * per ≡ 0 = omega arith in
    let many : min (length ls * per) (n - 0 * per) ≡ n = omega (arith, layout_room layout xs (length ls) h e) in
    all ∙ ap (λ m. statistics layout.blank (pixels w xs (0 * per) m)) many ∙ ap (λ a. statistics layout.blank (pixels w xs a n)) start

-- the words of the leaves from block a on
words_from : (layout : Layout) (xs : List ℕ) (ls : List Leaf) (a : ℕ) → ((k : ℕ) → k < length ls → get_or ls k leaf_unit ≡ leaf_of layout xs (a + k))
    → length xs ≡ 2880 * (a + length ls) → word_total (drop (2880 * a) xs) < 2 ^ 64 → (all_joined leaf_unit leaves_joined ls).second.total ≡ word_total (drop (2880 * a) xs)
words_from layout xs [] a f e small = ap word_total (sym (drop_all (2880 * a) xs (omega (arith, e))))
words_from layout xs (x ∷ ls) a f e small =
    let here : x ≡ leaf_of layout xs a = f 0 (omega arith) ∙ (let z : a + 0 ≡ a = omega arith in ap (leaf_of layout xs) z) in
    let part = word_total-part 720 xs (2880 * a) 2880 (2880 * (a + 1)) (omega arith) (omega arith) (omega (arith, e)) in
    let ih = words_from layout xs ls (a + 1) (λ k l. f (suc k) (omega arith) ∙ (let z : a + suc k ≡ a + 1 + k = omega arith in ap (leaf_of layout xs) z)) (omega (arith, e)) (omega (arith, small, part)) in
    ap (λ y. (y + (all_joined leaf_unit leaves_joined ls).second.total) % 2 ^ 64) (ap (λ z. z.second.total) here)
    ∙ ap (λ y. (word_total (block_of xs a) + y) % 2 ^ 64) ih ∙ ap (λ y. y % 2 ^ 64) (sym part) ∙ mod-eq_of_lt small

-- the leaves joined have the total of all words
pub leaves_total : (layout : Layout) (xs : List ℕ) (ls : List Leaf) → IsLayout layout xs → length xs ≡ 2880 * length ls → ((k : ℕ) → slice_index xs k < 256) → AreLeaves layout xs ls
    → (all_joined leaf_unit leaves_joined ls).second.total ≡ word_total xs
leaves_total layout xs ls h e b f =
    let start : 2880 * 0 ≡ 0 = omega arith in
    let whole : word_total (drop (2880 * 0) xs) ≡ word_total xs = ap (λ k. word_total (drop k xs)) start in
    let most = word_total-le (length xs / 4) xs (omega arith) (λ i l. b i) in
    let small : word_total (drop (2880 * 0) xs) < 2 ^ 64 = omega (arith, whole, most, h.limit) in
    words_from layout xs ls 0 (λ k l. f k l ∙ (let e : k ≡ 0 + k = omega arith in ap (leaf_of layout xs) e)) (omega (arith, e)) small ∙ whole

-- ---- leaves that are pushed one by one

-- what holds of each value of a list holds after one more was pushed
pub pushed : {A : Type 0} (P : ℕ → A → Type 0) (d : A) (xs ys : List A) (x : A) (n : ℕ) → ys ≡ xs ++ x ∷ [] → length xs ≡ n → ((j : ℕ) → j < n → P j (get_or xs j d)) → P n x → (j : ℕ) → j < n + 1 → P j (get_or ys j d)
pushed P d xs ys x n e long h last j b = elim (cases_lt j n) [
  | inl lt ↦ subst (P j) (sym (ap (λ zs. get_or zs j d) e ∙ get_or_append_left xs (x ∷ []) d j (omega (arith, long, lt)))) (h j lt)
  | inr ge ↦
      let same : n ≡ j = omega (arith, ge, b) in
      let none : j - n ≡ 0 = omega (arith, ge, b) in
      subst (P j) (sym (ap (λ zs. get_or zs j d) e ∙ get_or-append_right xs (x ∷ []) n j d long ge ∙ ap (λ m. get_or (x ∷ []) m d) none)) (subst (λ m. P m x) same last)
]

-- what holds of the values from place w on holds after one more was written
pub set_next : {A : Type 0} (P : ℕ → A → Type 0) (d : A) (xs : List A) (w k : ℕ) (x : A) → w + k < length xs → ((j : ℕ) → j < k → P j (get_or xs (w + j) d)) → P k x → (j : ℕ) → j < k + 1 → P j (get_or (set xs (w + k) x) (w + j) d)
set_next P d xs w k x room h last j b = elim (cases_lt j k) [
  | inl lt ↦ let ne : w + j ≢ w + k = omega (arith, lt) in subst (P j) (sym (get_or-set_other xs (w + k) (w + j) x d ne)) (h j lt)
  | inr ge ↦
      let same : k ≡ j = omega (arith, ge, b) in
      subst (λ m. P m (get_or (set xs (w + k) x) (w + m) d)) same (subst (P k) (sym (get_or-set_same xs (w + k) x d room)) last)
]

-- what holds of the values from a place on holds after the next one was written
pub set_more : {A : Type 0} (P : ℕ → A → Type 0) (d : A) (xs ys : List A) (from k : ℕ) (x : A) → ys ≡ set xs k x → k < length xs → ((j : ℕ) → from ≤ j → j < k → P j (get_or xs j d)) → P k x
    → (j : ℕ) → from ≤ j → j < k + 1 → P j (get_or ys j d)
set_more P d xs ys from k x e room h last j low b = elim (cases_lt j k) [
  | inl lt ↦ let ne : j ≢ k = omega (arith, lt) in subst (P j) (sym (ap (λ zs. get_or zs j d) e ∙ get_or-set_other xs k j x d ne)) (h j low lt)
  | inr ge ↦
      let same : k ≡ j = omega (arith, ge, b) in
      subst (λ m. P m (get_or ys m d)) same (subst (P k) (sym (ap (λ zs. get_or zs k d) e ∙ get_or-set_same xs k x d room)) last)
]

-- the values outside a range are kept when the next one in it was written
pub set_beside : {A : Type 0} (d : A) (old xs ys : List A) (from k : ℕ) (x : A) → ys ≡ set xs k x → from ≤ k → ((j : ℕ) → (j < from) ⊎ (k ≤ j) → get_or xs j d ≡ get_or old j d)
    → (j : ℕ) → (j < from) ⊎ (k + 1 ≤ j) → get_or ys j d ≡ get_or old j d
set_beside d old xs ys from k x e low h j away =
    let ne : j ≢ k = elim away [ inl lt ↦ omega (arith, lt, low) | inr ge ↦ omega (arith, ge) ] in
    ap (λ zs. get_or zs j d) e ∙ get_or-set_other xs k j x d ne ∙ h j (elim away [ inl lt ↦ inl lt | inr ge ↦ inr (omega (arith, ge)) ])

-- joins of one block more
pub joins_next : (from k d a b c : ℕ) → from ≤ k → b ≤ a + (k - from) * d → c ≤ b + d → c ≤ a + (k + 1 - from) * d
joins_next from k d a b c low p q =
    let more : k + 1 - from ≡ k - from + 1 = omega (arith, low) in
    let sum : (k + 1 - from) * d ≡ (k - from) * d + 1 * d = ap (λ m. m * d) more ∙ add-mul (k - from) 1 d in
    omega (arith, sum, p, q)
