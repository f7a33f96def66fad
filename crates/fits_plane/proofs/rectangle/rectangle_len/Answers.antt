use Rattle.std.proofs.Common.{arith}
use Rattle.fits_plane.proofs.TurnLemmas.{same_lengths, side_of, corner_room}
use Rattle.fits_plane.proofs.RowLemmas.{rectangle_size-le-product}
use Rattle.fits_plane.proofs.rectangle.rectangle_len.Goals as goal

pub bounds-hi-i : goal.bounds-hi-i
bounds-hi-i c = let s = same_lengths _ _ _ c.requires.rectangle in omega (arith, s.high)

pub bounds-lo-i : goal.bounds-lo-i
bounds-lo-i c = let s = same_lengths _ _ _ c.requires.rectangle in omega (arith, s.low)

pub overflow_add-size : goal.overflow_add-size
overflow_add-size c = record { fits = omega (arith, corner_room c.args.axes.now c.args.lo.now c.args.hi.now c.loop-i.i c.requires.rectangle c.loop-i-test.true, c.requires.small) }

pub overflow_sub-size : goal.overflow_sub-size
overflow_sub-size c =
    let t = side_of c.args.axes.now c.args.lo.now c.args.hi.now c.loop-i.i c.loop-i.size _ c.loop-i-test.true c.loop-i.invariant.rectangle c.loop-i.invariant.whole in
    omega (arith, t.side)

pub overflow_mul-size : goal.overflow_mul-size
overflow_mul-size c =
    let t = side_of c.args.axes.now c.args.lo.now c.args.hi.now c.loop-i.i c.loop-i.size _ c.loop-i-test.true c.loop-i.invariant.rectangle c.loop-i.invariant.whole in
    record { fits = omega (arith, t.fits, rectangle_size-le-product c.args.axes.now c.args.lo.now c.args.hi.now c.requires.rectangle, c.requires.small) }

pub loop-i-preserved : goal.loop-i-preserved
loop-i-preserved c =
    let t = side_of c.args.axes.now c.args.lo.now c.args.hi.now c.loop-i.i c.loop-i.size _ c.loop-i-test.true c.loop-i.invariant.rectangle c.loop-i.invariant.whole in
    record { rectangle = t.rest; whole = t.whole }
