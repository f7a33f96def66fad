use Rattle.std.proofs.Common.{refl, rules, SFits}
use Rattle.std.specs.Int.{w128}
use Rattle.std.proofs.lemmas.Int.{wrapping_add_is}
use Rattle.fits_pixels.specs.SummaryLaws.{same_pixels}
use Rattle.fits_pixels.proofs.pixel_summary.PixelSummarySummary.join.Goals as goal

pub returns : goal.returns
returns c =
    let f : SFits w128 c.args.self.sum = search rules in
    let h : SFits w128 c.args.other.sum = search rules in
    same_pixels _ _ _ _ _ _ _ _ _ _ refl refl c.lesser_of.ensures c.greater_of.ensures (wrapping_add_is w128 c.args.self.sum c.args.other.sum f h)
