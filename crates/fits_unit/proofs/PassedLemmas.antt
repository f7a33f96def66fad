-- What is known of a data unit as its bytes pass by, piece by piece.
use Rattle.std.proofs.Common.{◌≡◌, ◌≤◌, ◌<◌, ◌+◌, ◌-◌, ◌*◌, ◌/◌, ◌%◌, ◌^◌, ℕ, ℤ, zero, suc, Bool, List, Option, [], ◌∷◌, ◌++◌, length, slice_index, nat_eq, min, take, drop, refl, arith, sym, ◌∙◌, ap, subst, inl, inr, ◌⊎◌, append_assoc}
use Rattle.std.specs.Prelude.{◌&&◌}
use Rattle.std.specs.List.{list_all}
use Rattle.std.proofs.Math.Seq.{take-add, take-append_seam, drop-append_seam}
use Rattle.std.proofs.lemmas.Bool.{cases_lt}
use Rattle.std.proofs.lemmas.List.{length-append, take_all}
use Rattle.fits_sum.specs.Words.{word_total}
use Rattle.fits_sum.proofs.WordLemmas.{word_total-append, word_total-le}
use Rattle.fits_pixels.specs.declared.layout.Layout.{Layout}
use Rattle.fits_pixels.specs.declared.pixel_summary.PixelSummary.{PixelSummary}
use Rattle.fits_pixels.specs.Summary.{pixel_unit, pixels_joined}
use Rattle.fits_pixels.specs.SummaryLaws.{pixel_laws}
use Rattle.fits_pixels.specs.Statistics.{statistics, AllFit64}
use Rattle.fits_pixels.specs.Pixels.{pixels, IsWidth}
use Rattle.fits_pixels.specs.Layout.{IsLayout, block_count}
use Rattle.fits_pixels.proofs.FillLemmas.{filled-append}
use Rattle.fits_pixels.proofs.LayoutLemmas.{layout_small}
use Rattle.fits_pixels.proofs.StatisticsLemmas.{next, pixels_fit, statistics-append}
use Rattle.fits_pixels.proofs.PixelLemmas.{by_width, length-pixels, pixels-append, pixels-part, width_range}
use Rattle.fits_pixels.proofs.ValueLemmas.{Small, statistics_small}
use Rattle.fits_unit.specs.Passing.{IsPassing, pixels_in}

-- ---- how many pixels so many bytes have

-- those of whole blocks, and those of a block more
counts_add : (w n size : ℕ) → IsWidth w → size % 2880 ≡ 0 → min n ((size + 2880) / w) ≡ min n (size / w) + min (n - size / w) (2880 / w)
counts_add w n size h = by_width (λ w. size % 2880 ≡ 0 → min n ((size + 2880) / w) ≡ min n (size / w) + min (n - size / w) (2880 / w))
    (λ e. omega (arith, e)) (λ e. omega (arith, e)) (λ e. omega (arith, e)) (λ e. omega (arith, e)) w h

-- they lie within the bytes
counts_within : (w n size : ℕ) → IsWidth w → min n (size / w) * w ≤ size
counts_within w n size h = by_width (λ w. min n (size / w) * w ≤ size) (omega arith) (omega arith) (omega arith) (omega arith) w h

-- the bytes of whole blocks end with a pixel
counts_end : (w size : ℕ) → IsWidth w → size % 2880 ≡ 0 → size ≡ size / w * w
counts_end w size h = by_width (λ w. size % 2880 ≡ 0 → size ≡ size / w * w) (λ e. omega (arith, e)) (λ e. omega (arith, e)) (λ e. omega (arith, e)) (λ e. omega (arith, e)) w h

-- a block has room for its own
counts_fit : (w n : ℕ) → IsWidth w → min n (2880 / w) * w ≤ 2880
counts_fit w n h = by_width (λ w. min n (2880 / w) * w ≤ 2880) (omega arith) (omega arith) (omega arith) (omega arith) w h

-- none are left, or they begin where the bytes before them end
begins : (n before most : ℕ) → (min (n - before) most ≡ 0) ⊎ (0 + min n before ≡ before)
begins n before most = elim (cases_lt n before) [ inl less ↦ inl (omega (arith, less)) | inr more ↦ inr (omega (arith, more)) ]

-- they are as many as the bytes at most
counts_short : (w n size : ℕ) → IsWidth w → min n (size / w) ≤ size
counts_short w n size h = by_width (λ w. min n (size / w) ≤ size) (omega arith) (omega arith) (omega arith) (omega arith) w h

-- ---- bytes and a block more

-- bytes, and others, are bytes
pub small-append : (xs ys : List ℕ) → ((k : ℕ) → slice_index xs k < 256) → ((k : ℕ) → slice_index ys k < 256) → (k : ℕ) → slice_index (xs ++ ys) k < 256
small-append [] ys p q k = q k
small-append (x ∷ xs) ys p q zero = p 0
small-append (x ∷ xs) ys p q (suc k) = small-append xs ys (λ j. p (suc j)) q k

-- the pixels of the bytes before
pixels-before : (w n : ℕ) (xs ys : List ℕ) → n * w ≤ length xs → pixels w xs 0 n ≡ pixels w (xs ++ ys) 0 n
pixels-before w n xs ys within =
    let front : take (length xs) (drop 0 (xs ++ ys)) ≡ xs = take-append_seam xs ys in
    ap (λ l. pixels w l 0 n) (sym front) ∙ pixels-part w 0 (length xs) n 0 (xs ++ ys) (omega arith) within

-- and those of the block
pixels-after : (w a n : ℕ) (xs ys : List ℕ) → length xs ≡ a * w → n * w ≤ length ys → pixels w ys 0 n ≡ pixels w (xs ++ ys) a n
pixels-after w a n xs ys start within =
    let back : take (length ys) (drop (length xs) (xs ++ ys)) ≡ ys = ap (take (length ys)) (drop-append_seam xs ys) ∙ take_all (length ys) ys (omega arith) in
    ap (λ l. pixels w l 0 n) (sym back) ∙ pixels-part w a (length ys) n (length xs) (xs ++ ys) start within

-- the statistics of the pixels of the bytes that passed by, where these are the first
abbrev passed : Layout → List ℕ → PixelSummary
passed layout bytes = statistics layout.blank (pixels layout.width bytes 0 (pixels_in layout (length bytes)))

-- those of the pixels of a block that so many bytes stand before
abbrev found_in : Layout → List ℕ → ℕ → PixelSummary
found_in layout block count = statistics layout.blank (pixels layout.width block 0 (min (layout.pixels - count / layout.width) (2880 / layout.width)))

-- those of a block are joined to those before
passed_block : (layout : Layout) (before block : List ℕ) → IsWidth layout.width → length before % 2880 ≡ 0 → length block ≡ 2880 → length before + length block ≤ 2 ^ 34 → ((k : ℕ) → slice_index (before ++ block) k < 256)
    → pixels_joined (passed layout before) (found_in layout block (length before)) ≡ passed layout (before ++ block)
passed_block layout xs ys h blocks long room small =
    let w : ℕ = layout.width in
    let n : ℕ = layout.pixels in
    let zs : List ℕ = xs ++ ys in
    let size : ℕ = length xs in
    let a : ℕ = min n (size / w) in
    let m : ℕ = min (n - size / w) (2880 / w) in
    let all : length zs ≡ size + 2880 = length-append xs ys ∙ ap (λ l. size + l) long in
    let both : pixels_in layout (length zs) ≡ a + m = ap (λ l. min n (l / w)) all ∙ counts_add w n size h blocks in
    let few : m * w ≤ length ys = omega (arith, counts_fit w (n - size / w) h, long) in
    let ps = pixels w zs 0 a in
    let qs = pixels w zs (0 + a) m in
    let first : pixels w xs 0 a ≡ ps = pixels-before w a xs ys (counts_within w n size h) in
    let second : pixels w ys 0 m ≡ qs = pixels-after w (size / w) m xs ys (counts_end w size h blocks) few ∙ sym (next w 0 a m (size / w) zs (begins n (size / w) (2880 / w))) in
    let cut : pixels w zs 0 (a + m) ≡ ps ++ qs = pixels-append w 0 a m zs in
    let fit : (i k : ℕ) → AllFit64 (pixels w zs i k) = λ i k. pixels_fit w zs i k (inr h) (λ z. omega (arith, z, (width_range w h).0)) small in
    let short : a + m ≤ 2 ^ 34 = omega (arith, counts_short w n (size + 2880) h, counts_add w n size h blocks, room, long) in
    ap (λ s. pixels_joined s (found_in layout ys size)) (ap (statistics layout.blank) first) ∙ ap (pixels_joined (statistics layout.blank ps)) (ap (statistics layout.blank) second)
    ∙ statistics-append layout.blank ps qs (fit 0 a) (fit (0 + a) m) (subst AllFit64 cut (fit 0 (a + m))) (omega (arith, length-pixels w 0 a zs, short)) (omega (arith, length-pixels w (0 + a) m zs, short))
    (omega (arith, ap length cut, length-pixels w 0 (a + m) zs, short))
    ∙ ap (statistics layout.blank) (sym cut) ∙ ap (λ k. statistics layout.blank (pixels w zs 0 k)) (sym both)

-- where there are no pixels none are found
passed_none : (layout : Layout) (bytes : List ℕ) → layout.pixels ≡ 0 → passed layout bytes ≡ statistics layout.blank []
passed_none layout bytes none =
    let few : pixels_in layout (length bytes) ≡ 0 = omega (arith, none) in
    rw few refl

-- nor in the bytes that follow
found_none : (layout : Layout) (part : List ℕ) (count : ℕ) → layout.pixels ≡ 0 → found_in layout part count ≡ statistics layout.blank []
found_none layout part count none =
    let few : min (layout.pixels - count / layout.width) (2880 / layout.width) ≡ 0 = omega (arith, none) in
    rw few refl

-- so is nothing joined to nothing
passed_bare : (layout : Layout) (before part : List ℕ) → layout.pixels ≡ 0 → pixels_joined (passed layout before) (found_in layout part (length before)) ≡ passed layout (before ++ part)
passed_bare layout xs ys none =
    ap (λ s. pixels_joined s (found_in layout ys (length xs))) (passed_none layout xs none) ∙ ap (pixels_joined pixel_unit) (found_none layout ys (length xs) none)
    ∙ pixel_laws.left_unit pixel_unit pixel_laws.unit_fits ∙ sym (passed_none layout (xs ++ ys) none)

-- the total of words is small
pub total_small : (bytes : List ℕ) → length bytes % 2880 ≡ 0 → ((k : ℕ) → slice_index bytes k < 256) → word_total bytes ≤ 4294967295 * (length bytes / 4)
total_small bytes whole small = word_total-le (length bytes / 4) bytes (omega (arith, whole)) (λ i le. small i)

-- a part more passed by: a block, or bytes without pixels
pub passing_more : (layout : Layout) (bytes part all : List ℕ) (count count' used total total' scans scans' : ℕ) (stored stored' : PixelSummary) (filled here both : Bool) → IsPassing layout bytes count stored total filled scans
    → (layout.width ≡ 0) ⊎ (length part ≡ 2880) → length part % 2880 ≡ 0 → length bytes + length part ≤ 2 ^ 34 → ((k : ℕ) → slice_index part k < 256) → all ≡ bytes ++ part → count' ≡ count + length part
    → stored' ≡ pixels_joined stored (found_in layout part count) → total' ≡ total + word_total part → used ≡ layout.used - count → here ≡ list_all (nat_eq layout.fill) (drop used part) → both ≡ (filled && here)
    → scans' ≡ scans + block_count part → IsPassing layout all count' stored' total' both scans'
passing_more layout xs ys all count count' used total total' scans scans' stored stored' filled here both p block whole room bytes is more joined sum start fill and again =
    let small : (k : ℕ) → slice_index (xs ++ ys) k < 256 = small-append xs ys p.small bytes in
    let wide : pixels_joined (passed layout xs) (found_in layout ys (length xs)) ≡ passed layout (xs ++ ys) = elim p.width [
      | inl none ↦ passed_bare layout xs ys (p.no_pixels none)
      | inr width ↦ elim block [
        | inl none ↦ absurd (omega (arith, none, (width_range layout.width width).0))
        | inr long ↦ passed_block layout xs ys width p.whole long room small
      ]
    ] in
    rw is (record {
      width = p.width;
      no_pixels = p.no_pixels;
      small = small;
      whole = omega (arith, p.whole, whole, length-append xs ys);
      few = omega (arith, room, length-append xs ys);
      count_is = more ∙ ap (λ n. n + length ys) p.count_is ∙ sym (length-append xs ys);
      stored_are = joined ∙ ap (λ s. pixels_joined s (found_in layout ys count)) p.stored_are ∙ ap (λ n. pixels_joined (passed layout xs) (found_in layout ys n)) p.count_is ∙ wide;
      total_is =
          let words : length xs ≡ 4 * (length xs / 4) = omega (arith, p.whole) in
          sum ∙ ap (λ n. n + word_total ys) p.total_is ∙ sym (word_total-append (length xs / 4) xs ys words);
      filled_is =
          and ∙ ap (λ b. b && here) p.filled_is
          ∙ ap (λ b. list_all (nat_eq layout.fill) (drop layout.used xs) && b) (fill ∙ ap (λ n. list_all (nat_eq layout.fill) (drop n ys)) (start ∙ ap (λ n. layout.used - n) p.count_is))
          ∙ sym (filled-append layout.fill layout.used xs ys);
      scans_are = omega (arith, again, p.scans_are, p.whole, whole, length-append xs ys);
    })

-- a front of a piece passed by, and a block more
pub front_more : (before piece : List ℕ) (k at size : ℕ) → at ≡ 2880 * k → size ≡ 2880 → (before ++ take (2880 * k) piece) ++ take size (drop at piece) ≡ before ++ take (2880 * (k + 1)) piece
front_more before piece k at size start block =
    let more : 2880 * k + 2880 ≡ 2880 * (k + 1) = omega arith in
    let all : take (2880 * k) piece ++ take size (drop at piece) ≡ take (2880 * (k + 1)) piece =
    ap (λ n. take (2880 * k) piece ++ take n (drop at piece)) block ∙ ap (λ n. take (2880 * k) piece ++ take 2880 (drop n piece)) start ∙ sym (take-add (2880 * k) 2880 piece) ∙ ap (λ n. take n piece) more in
    append_assoc before (take (2880 * k) piece) (take size (drop at piece)) ∙ ap (λ bytes. before ++ bytes) all

-- ---- a whole data unit

-- the statistics of its pixels are small enough for an offset
pub passed_small : (layout : Layout) (blank : Option ℤ) (unit : List ℕ) → IsLayout layout unit → ((k : ℕ) → slice_index unit k < 256) → Small blank (pixels layout.width unit 0 layout.pixels)
passed_small layout blank unit h bytes =
    let few : length (pixels layout.width unit 0 layout.pixels) ≤ 2 ^ 62 = omega (arith, length-pixels layout.width 0 layout.pixels unit, layout_small layout unit h, h.limit) in
    statistics_small blank (pixels layout.width unit 0 layout.pixels) (pixels_fit layout.width unit 0 layout.pixels h.width h.no_pixels bytes) few
