use Rattle.std.proofs.Common.{◌≡◌, ◌*◌, ◌-◌, ◌∙◌, ℕ, List, min, take, drop, ap, arith, refl}
use Rattle.fits_sum.specs.Words.{word_total}
use Rattle.fits_pixels.specs.Statistics.{statistics}
use Rattle.fits_pixels.specs.Pixels.{pixels}
use Rattle.fits_pixels.specs.SummaryLaws.{same_both}
use Rattle.fits_pixels.proofs.StatisticsLemmas.{word_leaf}
use Rattle.fits_plane.specs.Parts.{group_pixels}
use Rattle.fits_plane.proofs.PartLemmas.{part_alone}
use Rattle.fits_plane.proofs.parts.scan_groups.Goals as goal

-- the part is read by itself
pub returns : goal.returns
returns c =
    let xs : List ℕ = c.args.bytes.now in
    let w : ℕ = c.args.layout.width in
    let from : ℕ = c.args.from in
    let n : ℕ = c.args.to - from in
    let size : ℕ = 8 * c.args.to - 8 * from in
    let long : size ≡ 8 * n = omega arith in
    let many : c.min-held.result ≡ min (n * group_pixels w) (c.args.layout.pixels - from * group_pixels w) = omega (arith, c.min-held.ensures, c.saturating_sub.ensures) in
    let numbers = part_alone w from c.args.to c.min-held.result (8 * from) size xs c.requires.width c.requires.order refl long (omega (arith, many)) ∙ ap (pixels w xs (from * group_pixels w)) many in
    same_both _ _ _ _ (c.scan_part.ensures.first ∙ ap (statistics c.args.layout.blank) numbers) (word_leaf _ _ (c.scan_part.ensures.second ∙ ap (λ m. word_total (take m (drop (8 * from) xs))) long))
