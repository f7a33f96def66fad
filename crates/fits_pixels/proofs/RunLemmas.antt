-- Statistics of a block, run by run.
use Rattle.std.proofs.Common.{◌≡◌, ◌≤◌, ◌<◌, ◌+◌, ◌*◌, ◌^◌, ℕ, ℤ, List, ◌++◌, Option, length, slice_index, take, drop, arith, sym, ◌∙◌, ap, subst, inr}
use Rattle.fits_pixels.specs.Summary.{pixels_joined}
use Rattle.fits_pixels.specs.Statistics.{statistics, AllFit64}
use Rattle.fits_pixels.specs.Pixels.{pixels, IsWidth}
use Rattle.fits_pixels.proofs.PixelLemmas.{pixels-part, pixels-append, length-pixels, width_range}
use Rattle.fits_pixels.proofs.StatisticsLemmas.{pixels_fit, statistics-append}

-- the statistics of the first a pixels, joined with those of the next m
pub run_joined : (w a m at size : ℕ) (xs : List ℕ) (blank : Option ℤ) → IsWidth w → ((k : ℕ) → slice_index xs k < 256) → at ≡ a * w → m * w ≤ size → a + m < 2 ^ 62
    → pixels_joined (statistics blank (pixels w xs 0 a)) (statistics blank (pixels w (take size (drop at xs)) 0 m)) ≡ statistics blank (pixels w xs 0 (a + m))
run_joined w a m at size xs blank h b e room small =
    let ps = pixels w xs 0 a in
    let qs = pixels w xs a m in
    let some = (width_range w h).0 in
    let start : 0 + a ≡ a = omega arith in
    let cut : pixels w xs 0 (a + m) ≡ ps ++ qs = pixels-append w 0 a m xs ∙ ap (λ k. ps ++ pixels w xs k m) start in
    let fit : (i n : ℕ) → AllFit64 (pixels w xs i n) = λ i n. pixels_fit w xs i n (inr h) (λ z. omega (arith, z, some)) b in
    ap (λ ys. pixels_joined (statistics blank ps) (statistics blank ys)) (pixels-part w a size m at xs e room)
    ∙ statistics-append blank ps qs (fit 0 a) (fit a m) (subst AllFit64 cut (fit 0 (a + m))) (omega (arith, length-pixels w 0 a xs, small)) (omega (arith, length-pixels w a m xs, small))
    (omega (arith, ap length cut, length-pixels w 0 (a + m) xs, small))
    ∙ ap (statistics blank) (sym cut)
