use Rattle.std.proofs.Common.{◌≡◌, ◌*◌, ◌+◌, ◌-◌, ◌∙◌, ℕ, List, take, drop, ap, arith, refl}
use Rattle.fits_sum.specs.Words.{word_total}
use Rattle.fits_pixels.specs.Statistics.{statistics}
use Rattle.fits_pixels.specs.Pixels.{pixels}
use Rattle.fits_pixels.specs.Layout.{block_pixels}
use Rattle.fits_pixels.specs.Block.{held}
use Rattle.fits_pixels.specs.SummaryLaws.{same_both}
use Rattle.fits_pixels.proofs.LayoutLemmas.{block_part}
use Rattle.fits_pixels.proofs.StatisticsLemmas.{word_leaf}
use Rattle.fits_pixels.proofs.scan.scan_block.Goals as goal

pub returns : goal.returns
returns c =
    let xs : List ℕ = c.args.bytes.now in
    let k : ℕ = c.args.k in
    let w : ℕ = c.args.layout.width in
    let n : ℕ = c.args.layout.pixels in
    let at : ℕ = 2880 * k in
    let whole : at + 2880 - at ≡ 2880 = omega arith in
    let start : k * c.pixels_per_block-per.result ≡ k * block_pixels w = ap (λ m. k * m) c.pixels_per_block-per.ensures in
    let many : c.min-held.result ≡ held (block_pixels w) n k = omega (arith, c.min-held.ensures, c.saturating_sub.ensures, c.pixels_per_block-per.ensures, start) in
    let here = ap (pixels w (take (at + 2880 - at) (drop at xs)) 0) many ∙ block_part w n k at (at + 2880 - at) xs c.requires.layout.width c.requires.layout.no_pixels refl whole in
    same_both _ _ _ _ (c.scan_part.ensures.first ∙ ap (statistics c.args.layout.blank) here) (word_leaf _ _ (c.scan_part.ensures.second ∙ ap (λ m. word_total (take m (drop at xs))) whole))
