use Rattle.std.proofs.Common.{◌∙◌, not, sym, ap}
use Rattle.fits_pixels.proofs.ApartLemmas.{lead_more}
use Rattle.fits_pixels.proofs.SignedLemmas.{not_same, ordered}
use Rattle.fits_pixels.proofs.passes.leading_blanks.Goals as goal

pub loop-i-preserved : goal.loop-i-preserved
loop-i-preserved g c =
    let p = g.P.SignedPixel in
    let o = ordered p.number g.P.PartialEq.eq g.P.PartialOrd.partial_cmp g.P.Ord.cmp g.met.P.SignedPixel.order g.met.P.Ord.matches_partial_cmp g.met.P.Ord.matches_eq in
    record { blank = lead_more p.width c.loop-i.i _ c.args.block.now c.loop-i.invariant.blank (sym c.read.ensures ∙ o.same _ _ (not_same _ (sym c.ne.ensures ∙ c.if-ne.false))) }

pub returns-then-ne-clause-stops : goal.returns-then-ne-clause-stops
returns-then-ne-clause-stops g c =
    let p = g.P.SignedPixel in
    let o = ordered p.number g.P.PartialEq.eq g.P.PartialOrd.partial_cmp g.P.Ord.cmp g.met.P.SignedPixel.order g.met.P.Ord.matches_partial_cmp g.met.P.Ord.matches_eq in
    λ l e. absurd (let z = sym c.if-ne.true ∙ c.ne.ensures ∙ ap not (o.equal _ _ (c.read.ensures ∙ e)) in (cc z))
