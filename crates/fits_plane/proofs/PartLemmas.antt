-- Parts of a block: joined they are the block, and one whose bytes stay says the same.
use Rattle.std.proofs.Common.{◌≡◌, ◌<◌, ◌≤◌, ℕ, ◌+◌, ◌-◌, ◌*◌, ◌^◌, List, ◌++◌, Option, ℤ, length, slice_index, min, take, drop, arith, sym, ◌∙◌, ap, subst, inl, inr, ◌⊎◌}
use Rattle.std.proofs.Math.Nat.{add-mul, mul_assoc, mul-le-mul_right, mod-eq_of_lt}
use Rattle.std.proofs.Math.Seq.{take-add}
use Rattle.std.proofs.lemmas.Bool.{cases_lt}
use Rattle.std.proofs.lemmas.List.{ext_get_or, drop-drop, length-take, length-drop, get_or-take, get_or-drop}
use Rattle.fits_sum.specs.Words.{word_total}
use Rattle.fits_sum.proofs.WordLemmas.{word_total-append, word_total-le}
use Rattle.fits_pixels.specs.declared.pixel_summary.PixelSummary.{PixelSummary}
use Rattle.fits_pixels.specs.declared.word_summary.WordSummary.{WordSummary}
use Rattle.fits_pixels.specs.declared.both.Both.{Both}
use Rattle.fits_pixels.specs.declared.layout.Layout.{Layout}
use Rattle.fits_pixels.specs.Summary.{pixels_joined, added}
use Rattle.fits_pixels.specs.SummaryLaws.{same_both}
use Rattle.fits_pixels.specs.Statistics.{statistics, AllFit64}
use Rattle.fits_pixels.specs.Pixels.{pixels, IsWidth}
use Rattle.fits_pixels.specs.Layout.{IsLayout, block_pixels}
use Rattle.fits_pixels.specs.Block.{held, leaf_of}
use Rattle.fits_pixels.proofs.PixelLemmas.{by_width, width_range, pixels-append, pixels-same, pixel-same, pixels-part, length-pixels}
use Rattle.fits_pixels.proofs.StatisticsLemmas.{pixels_fit, statistics-append, next, word_leaf}
use Rattle.fits_pixels.proofs.LayoutLemmas.{layout_small}
use Rattle.fits_plane.specs.Parts.{group_pixels, part_of, AreGroupsChanged}
use Rattle.fits_plane.specs.Exchange.{leaves_joined, IsExchanged}

-- a group is made of whole pixels
group_width : (w : ℕ) → IsWidth w → group_pixels w * w ≡ 8
group_width w h = by_width (λ w. group_pixels w * w ≡ 8) (omega arith) (omega arith) (omega arith) (omega arith) w h

-- ---- two parts

-- the statistics of two runs of pixels, joined
runs_joined : (w a m n q : ℕ) (xs : List ℕ) (blank : Option ℤ) → IsWidth w → ((k : ℕ) → slice_index xs k < 256) → (n ≡ 0) ⊎ (a + m ≡ q) → m + n < 2 ^ 62
    → statistics blank (pixels w xs a (m + n)) ≡ pixels_joined (statistics blank (pixels w xs a m)) (statistics blank (pixels w xs q n))
runs_joined w a m n q xs blank h b on small =
    let ps = pixels w xs a m in
    let qs = pixels w xs q n in
    let some = (width_range w h).0 in
    let cut : pixels w xs a (m + n) ≡ ps ++ qs = pixels-append w a m n xs ∙ ap (λ ys. ps ++ ys) (next w a m n q xs on) in
    let fit : (i k : ℕ) → AllFit64 (pixels w xs i k) = λ i k. pixels_fit w xs i k (inr h) (λ z. omega (arith, z, some)) b in
    ap (statistics blank) cut
    ∙ sym (statistics-append blank ps qs (fit a m) (fit q n) (subst AllFit64 cut (fit a (m + n))) (omega (arith, length-pixels w a m xs, small)) (omega (arith, length-pixels w q n xs, small))
    (omega (arith, ap length cut, length-pixels w a (m + n) xs, small)))

-- the total of two runs of words
words_apart : (a m n : ℕ) (xs : List ℕ) → 8 * (a + m + n) ≤ length xs → length xs ≤ 17179869184 → ((k : ℕ) → slice_index xs k < 256)
    → word_total (take (8 * (m + n)) (drop (8 * a) xs)) ≡ added (word_total (take (8 * m) (drop (8 * a) xs))) (word_total (take (8 * n) (drop (8 * (a + m)) xs)))
words_apart a m n xs room short bytes =
    let ys : List ℕ = drop (8 * a) xs in
    let all : 8 * (m + n) ≡ 8 * m + 8 * n = omega arith in
    let on : drop (8 * m) ys ≡ drop (8 * (a + m)) xs = drop-drop (8 * m) (8 * a) xs ∙ (let e : 8 * a + 8 * m ≡ 8 * (a + m) = omega arith in ap (λ i. drop i xs) e) in
    let cut : take (8 * (m + n)) ys ≡ take (8 * m) ys ++ take (8 * n) (drop (8 * (a + m)) xs)
    = ap (λ i. take i ys) all ∙ take-add (8 * m) (8 * n) ys ∙ ap (λ zs. take (8 * m) ys ++ take (8 * n) zs) on in
    let front : length (take (8 * m) ys) ≡ 4 * (2 * m) = omega (arith, length-take (8 * m) ys, length-drop (8 * a) xs, room) in
    let sum = ap word_total cut ∙ word_total-append (2 * m) (take (8 * m) ys) (take (8 * n) (drop (8 * (a + m)) xs)) front in
    let whole : length (take (8 * (m + n)) ys) ≡ 8 * (m + n) = omega (arith, length-take (8 * (m + n)) ys, length-drop (8 * a) xs, room) in
    let most = word_total-le (2 * (m + n)) (take (8 * (m + n)) ys) (omega (arith, whole)) (λ i l.
    let near : i < 8 * (m + n) = omega (arith, l, whole) in
    subst (λ x. x < 256) (sym (get_or-take (8 * (m + n)) ys i 0 near ∙ get_or-drop (8 * a) xs i 0)) (bytes (8 * a + i))) in
    let few : word_total (take (8 * m) ys) + word_total (take (8 * n) (drop (8 * (a + m)) xs)) < 2 ^ 64 = omega (arith, sum, most, room, short) in
    sum ∙ sym (mod-eq_of_lt few)

-- two parts that follow each other are joined to both
pub part-append : (layout : Layout) (a m n : ℕ) (xs : List ℕ) → IsLayout layout xs → IsWidth layout.width → ((k : ℕ) → slice_index xs k < 256) → 8 * (a + m + n) ≤ length xs
    → part_of layout xs a (m + n) ≡ leaves_joined (part_of layout xs a m) (part_of layout xs (a + m) n)
part-append layout a m n xs h width bytes room =
    let w : ℕ = layout.width in
    let all : ℕ = layout.pixels in
    let per : ℕ = group_pixels w in
    let some : ℕ = min (m * per) (all - a * per) in
    let rest : ℕ = min (n * per) (all - (a + m) * per) in
    let both = add-mul m n per in
    let start = add-mul a m per in
    let many : min ((m + n) * per) (all - a * per) ≡ some + rest = omega (arith, both, start) in
    let on : (rest ≡ 0) ⊎ (a * per + some ≡ (a + m) * per) = elim (cases_lt (all - a * per) (m * per)) [
      | inl lt ↦ inl (omega (arith, start, lt))
      | inr ge ↦ inr (omega (arith, start, ge))
    ] in
    let few : some + rest < 2 ^ 62 = omega (arith, many, layout_small layout xs h, h.limit) in
    same_both _ _ _ _ (ap (λ k. statistics layout.blank (pixels w xs (a * per) k)) many ∙ runs_joined w (a * per) some rest ((a + m) * per) xs layout.blank width bytes on few)
    (word_leaf _ _ (words_apart a m n xs room h.limit bytes))

-- ---- a part whose bytes stay

-- the bytes of a pixel of a part lie in the part
part_bytes : (w a n x m : ℕ) → IsWidth w → x < n * group_pixels w → m < w → (8 * a ≤ (a * group_pixels w + x) * w + m) × ((a * group_pixels w + x) * w + m < 8 * (a + n))
part_bytes w a n x m h = by_width (λ w. x < n * group_pixels w → m < w → (8 * a ≤ (a * group_pixels w + x) * w + m) × ((a * group_pixels w + x) * w + m < 8 * (a + n)))
    (λ p q. (omega (arith, p, q), omega (arith, p, q))) (λ p q. (omega (arith, p, q), omega (arith, p, q)))
    (λ p q. (omega (arith, p, q), omega (arith, p, q))) (λ p q. (omega (arith, p, q), omega (arith, p, q))) w h

-- it says the same
pub part-same : (layout : Layout) (a n : ℕ) (old new : List ℕ) → IsWidth layout.width → length new ≡ length old → ((j : ℕ) → 8 * a ≤ j → j < 8 * (a + n) → slice_index new j ≡ slice_index old j)
    → part_of layout new a n ≡ part_of layout old a n
part-same layout a n old new h long byte =
    let w : ℕ = layout.width in
    let per : ℕ = group_pixels w in
    let count : ℕ = min (n * per) (layout.pixels - a * per) in
    let bytes : take (8 * n) (drop (8 * a) new) ≡ take (8 * n) (drop (8 * a) old) = ext_get_or 0 (take (8 * n) (drop (8 * a) new)) (take (8 * n) (drop (8 * a) old))
    (omega (arith, length-take (8 * n) (drop (8 * a) new), length-take (8 * n) (drop (8 * a) old), length-drop (8 * a) new, length-drop (8 * a) old, long))
    (λ i b.
    let near : i < 8 * n = omega (arith, b, length-take (8 * n) (drop (8 * a) new)) in
    get_or-take (8 * n) (drop (8 * a) new) i 0 near ∙ get_or-drop (8 * a) new i 0 ∙ byte (8 * a + i) (omega arith) (omega (arith, near))
    ∙ sym (get_or-drop (8 * a) old i 0) ∙ sym (get_or-take (8 * n) (drop (8 * a) old) i 0 near)) in
    let numbers : pixels w new (a * per) count ≡ pixels w old (a * per) count = pixels-same w (a * per) (a * per) count new old (λ x b.
    pixel-same w (a * per + x) (a * per + x) new old (λ m c.
    let near = part_bytes w a n x m h (omega (arith, b)) c in
    byte ((a * per + x) * w + m) near.0 near.1)) in
    same_both _ _ _ _ (ap (statistics layout.blank) numbers) (word_leaf _ _ (ap word_total bytes))

-- ---- a block

-- a block is 360 groups
block_groups : (w : ℕ) → IsWidth w → block_pixels w ≡ 360 * group_pixels w
block_groups w h = by_width (λ w. block_pixels w ≡ 360 * group_pixels w) (omega arith) (omega arith) (omega arith) (omega arith) w h

-- a block is a part
pub leaf-part : (layout : Layout) (k : ℕ) (xs : List ℕ) → IsWidth layout.width → leaf_of layout xs k ≡ part_of layout xs (360 * k) 360
leaf-part layout k xs h =
    let w : ℕ = layout.width in
    let per = block_groups w h in
    let start : k * block_pixels w ≡ 360 * k * group_pixels w = ap (λ m. k * m) per ∙ omega arith in
    let many : held (block_pixels w) layout.pixels k ≡ min (360 * group_pixels w) (layout.pixels - 360 * k * group_pixels w) = omega (arith, per, start) in
    let at : 2880 * k ≡ 8 * (360 * k) = omega arith in
    same_both _ _ _ _ (ap (λ a. statistics layout.blank (pixels w xs a (held (block_pixels w) layout.pixels k))) start ∙ ap (λ m. statistics layout.blank (pixels w xs (360 * k * group_pixels w) m)) many)
    (word_leaf _ _ (ap (λ a. word_total (take 2880 (drop a xs))) at))

-- a block whose bytes stay says the same
pub leaf-same : (layout : Layout) (k : ℕ) (old new : List ℕ) → IsWidth layout.width → length new ≡ length old → ((j : ℕ) → 2880 * k ≤ j → j < 2880 * k + 2880 → slice_index new j ≡ slice_index old j)
    → leaf_of layout new k ≡ leaf_of layout old k
leaf-same layout k old new h long byte =
    leaf-part layout k new h ∙ part-same layout (360 * k) 360 old new h long (λ j a b. byte j (omega (arith, a)) (omega (arith, b))) ∙ sym (leaf-part layout k old h)

-- a block is what stands before a part, the part, and what stands after it
leaf_cut : (layout : Layout) (k from to : ℕ) (xs : List ℕ) → IsLayout layout xs → IsWidth layout.width → ((j : ℕ) → slice_index xs j < 256) → 2880 * k + 2880 ≤ length xs
    → 360 * k ≤ from → from ≤ to → to ≤ 360 * k + 360
    → leaf_of layout xs k ≡ leaves_joined (part_of layout xs (360 * k) (from - 360 * k)) (leaves_joined (part_of layout xs from (to - from)) (part_of layout xs to (360 * k + 360 - to)))
leaf_cut layout k from to xs h w bytes room low order high =
    let a : ℕ = 360 * k in
    let before : ℕ = from - a in
    let part : ℕ = to - from in
    let after : ℕ = a + 360 - to in
    let all : 360 ≡ before + (part + after) = omega (arith, low, order, high) in
    let here : a + before ≡ from = omega (arith, low) in
    let there : from + part ≡ to = omega (arith, order) in
    leaf-part layout k xs w ∙ ap (part_of layout xs a) all ∙ part-append layout a before (part + after) xs h w bytes (omega (arith, room, low, order, high))
    ∙ ap (λ i. leaves_joined (part_of layout xs a before) (part_of layout xs i (part + after))) here
    ∙ ap (leaves_joined (part_of layout xs a before)) (part-append layout from part after xs h w bytes (omega (arith, room, low, order, high)))
    ∙ ap (λ i. leaves_joined (part_of layout xs a before) (leaves_joined (part_of layout xs from part) (part_of layout xs i after))) there

-- where a part of it changed, it says what comes of the exchange
pub leaf_exchanged : (layout : Layout) (k from to : ℕ) (old new : List ℕ) (all gone come after : Both PixelSummary WordSummary) → IsLayout layout old → IsLayout layout new → IsWidth layout.width
    → ((j : ℕ) → slice_index old j < 256) → ((j : ℕ) → slice_index new j < 256) → 2880 * k + 2880 ≤ length new → 360 * k ≤ from → from ≤ to → to ≤ 360 * k + 360 → AreGroupsChanged from to old new
    → all ≡ leaf_of layout old k → gone ≡ part_of layout old from (to - from) → come ≡ part_of layout new from (to - from) → IsExchanged all gone come after → after ≡ leaf_of layout new k
leaf_exchanged layout k from to old new all gone come after h i w b c room low order high f p q r e =
    let a : ℕ = 360 * k in
    let before : ℕ = from - a in
    let rest : ℕ = a + 360 - to in
    let left : Both PixelSummary WordSummary = part_of layout old a before in
    let right : Both PixelSummary WordSummary = part_of layout old to rest in
    let was : all ≡ leaves_joined left (leaves_joined gone right) = p ∙ leaf_cut layout k from to old h w b (omega (arith, room, f.long)) low order high ∙ ap (λ z. leaves_joined left (leaves_joined z right)) (sym q) in
    let same_left : left ≡ part_of layout new a before = sym (part-same layout a before old new w f.long (λ j x y. f.outside j (inl (omega (arith, y, low))))) in
    let same_right : right ≡ part_of layout new to rest = sym (part-same layout to rest old new w f.long (λ j x y. f.outside j (inr (omega (arith, x))))) in
    e left right was ∙ ap (λ z. leaves_joined z (leaves_joined come right)) same_left ∙ ap (λ z. leaves_joined (part_of layout new a before) (leaves_joined come z)) same_right
    ∙ ap (λ z. leaves_joined (part_of layout new a before) (leaves_joined z (part_of layout new to rest))) r
    ∙ sym (leaf_cut layout k from to new i w c room low order high)

-- ---- a part read by itself

-- the pixels of a part, read in the part alone
pub part_alone : (w from to n at size : ℕ) (xs : List ℕ) → IsWidth w → from ≤ to → at ≡ 8 * from → size ≡ 8 * (to - from) → n ≤ (to - from) * group_pixels w
    → pixels w (take size (drop at xs)) 0 n ≡ pixels w xs (from * group_pixels w) n
part_alone w from to n at size xs h order e s few =
    let per : ℕ = group_pixels w in
    let whole = group_width w h in
    let start : from * per * w ≡ 8 * from = omega (arith, mul_assoc from per w, ap (λ m. from * m) whole) in
    let end : (to - from) * per * w ≡ 8 * (to - from) = omega (arith, mul_assoc (to - from) per w, ap (λ m. (to - from) * m) whole) in
    pixels-part w (from * per) size n at xs (omega (arith, e, start)) (omega (arith, s, end, mul-le-mul_right w few))
