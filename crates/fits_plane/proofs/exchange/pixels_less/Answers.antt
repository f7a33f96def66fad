use Rattle.std.proofs.Common.{refl, rules, SFits}
use Rattle.std.specs.Int.{w128}
use Rattle.std.proofs.lemmas.Int.{wrapping_sub_is}
use Rattle.fits_pixels.specs.SummaryLaws.{same_pixels}
use Rattle.fits_plane.proofs.exchange.pixels_less.Goals as goal

pub returns : goal.returns
returns c =
    let f : SFits w128 c.args.all.sum = search rules in
    let h : SFits w128 c.args.gone.sum = search rules in
    same_pixels _ _ _ _ _ _ _ _ _ _ refl refl refl refl (wrapping_sub_is w128 c.args.all.sum c.args.gone.sum f h)
