use Rattle.std.proofs.Common.{◌+◌, ◌*◌, ◌∙◌, ℕ, drop, ap, sym}
use Rattle.fits_plane.specs.Rectangle.{rectangle_size}
use Rattle.fits_c.proofs.AxisLemmas.{axis_at, size_more, size_none, size_step}
use Rattle.fits_c.proofs.rows.has_size.Goals as goal

pub bounds-hi-i : goal.bounds-hi-i
bounds-hi-i c = (axis_at c.args.lo.now c.args.hi.now c.loop-i.i c.requires c.loop-i-test.true).within

pub side-side-requires-clause-some : goal.side-side-requires-clause-some
side-side-requires-clause-some c = (axis_at c.args.lo.now c.args.hi.now c.loop-i.i c.requires c.loop-i-test.true).some

pub side-side-requires-clause-ordered : goal.side-side-requires-clause-ordered
side-side-requires-clause-ordered c = (axis_at c.args.lo.now c.args.hi.now c.loop-i.i c.requires c.loop-i-test.true).ordered

pub returns-then-left-side-ne0 : goal.returns-then-left-side-ne0
returns-then-left-side-ne0 c =
    let a = axis_at c.args.lo.now c.args.hi.now c.loop-i.i c.requires c.loop-i-test.true in
    let rest : ℕ = rectangle_size (drop (c.loop-i.i + 1) c.args.lo.now) (drop (c.loop-i.i + 1) c.args.hi.now) in (
      λ no. absurd (cc),
      λ h. absurd (size_none _ c.loop-i.left c.side-side.result _ rest c.loop-i.invariant
          (size_more c.args.lo.now c.args.hi.now c.loop-i.i a ∙ ap (λ n. n * rest) (sym c.side-side.ensures.value)) c.if-left-side-ne0.true h),
    )

pub loop-i-preserved : goal.loop-i-preserved
loop-i-preserved c =
    let a = axis_at c.args.lo.now c.args.hi.now c.loop-i.i c.requires c.loop-i-test.true in
    let rest : ℕ = rectangle_size (drop (c.loop-i.i + 1) c.args.lo.now) (drop (c.loop-i.i + 1) c.args.hi.now) in
    size_step _ c.loop-i.left c.side-side.result _ rest c.loop-i.invariant c.side-side.ensures.some
    (size_more c.args.lo.now c.args.hi.now c.loop-i.i a ∙ ap (λ n. n * rest) (sym c.side-side.ensures.value)) c.if-left-side-ne0.false
