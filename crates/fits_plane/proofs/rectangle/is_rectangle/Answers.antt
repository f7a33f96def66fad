use Rattle.std.proofs.Common.{◌↔◌, IsTrue, true, false, arith, refl}
use Rattle.std.proofs.lemmas.Bool.{iff_false}
use Rattle.fits_pixels.proofs.TestLemmas.{same_test}
use Rattle.fits_plane.specs.Rectangle.{IsRectangle}
use Rattle.fits_plane.proofs.TurnLemmas.{same_lengths}
use Rattle.fits_plane.proofs.CornerLemmas.{corners_lie, corners_make, refuted, lies_within_decides}
use Rattle.fits_plane.proofs.rectangle.is_rectangle.Goals.{then-lo-axes-via-then-lo-axes, then-lo-axes-via-else-lo-axes+then-hi-axes}
use Rattle.fits_plane.proofs.rectangle.is_rectangle.Goals as goal

pub returns-then-lo-axes : goal.returns-then-lo-axes
returns-then-lo-axes c =
    let means : IsTrue false ↔ IsRectangle c.args.axes.now c.args.lo.now c.args.hi.now = refuted _ (λ r.
    let same = same_lengths c.args.axes.now c.args.lo.now c.args.hi.now r in
    elim c.then-lo-axes.branch [
      | then-lo-axes-via-then-lo-axes w ↦ omega (arith, same.low, w.if-lo-axes.true)
      | then-lo-axes-via-else-lo-axes+then-hi-axes w ↦ omega (arith, same.high, w.if-hi-axes.true)
    ]) in
    record { means = means; value = same_test _ _ _ means (lies_within_decides c.args.axes.now c.args.lo.now c.args.hi.now) }

pub returns-then-not-lie_in : goal.returns-then-not-lie_in
returns-then-not-lie_in c =
    let means : IsTrue false ↔ IsRectangle c.args.axes.now c.args.lo.now c.args.hi.now = refuted _ (λ r.
    let f = corners_lie c.args.axes.now c.args.lo.now c.args.hi.now c.loop-i.i r c.loop-i-test.true in
    iff_false c.lie_in.ensures c.if-not-lie_in.true (f.some, (f.order, f.room))) in
    record { means = means; value = same_test _ _ _ means (lies_within_decides c.args.axes.now c.args.lo.now c.args.hi.now) }

pub returns : goal.returns
returns c =
    let means : IsTrue true ↔ IsRectangle c.args.axes.now c.args.lo.now c.args.hi.now = (
      λ t. corners_make c.args.axes.now c.args.lo.now c.args.hi.now c.loop-i.invariant.low c.loop-i.invariant.high (λ k b. c.loop-i.invariant.each k (omega (arith, b, c.loop-i-test.false))),
      λ r. refl,
    ) in
    record { means = means; value = same_test _ _ _ means (lies_within_decides c.args.axes.now c.args.lo.now c.args.hi.now) }
