use Rattle.std.proofs.Common.{subst}
use Rattle.fits_plane.specs.Painting.{plane_by, Paints}
use Rattle.fits_plane.specs.Plane.{PlaneState}
use Rattle.fits_plane.proofs.plane.Plane.paint_rect.Goals as goal

pub paint_rectangle-requires-clause-kept : goal.paint_rectangle-requires-clause-kept
paint_rectangle-requires-clause-kept c =
    let v = c.self.invariant in
    record { fits = v.layout; whole = v.whole; right = v.leaves }

pub invariant_of-self : goal.invariant_of-self
invariant_of-self c =
    let kept = c.paint_rectangle.ensures.kept in
    record { whole = kept.whole; layout = kept.fits; leaves = kept.right }

pub returns : goal.returns
returns c =
    let t = c.self.inside in
    let new : PlaneState = plane_by t.layout c.paint_rectangle.new.store c.paint_rectangle.new.tree.joins in
    subst (λ s. Paints c.args.painting.now s new) c.self.view_is c.paint_rectangle.ensures.painted
