use Rattle.std.proofs.Common.{◌≤◌, ℕ, arith}
use Rattle.std.proofs.Math.Nat.{mul-le-mul_left}
use Rattle.fits_plane.proofs.PlaceLemmas.{place-lt-product}
use Rattle.fits_plane.proofs.TurnLemmas.{turn, same_lengths, room_whole}
use Rattle.fits_plane.proofs.rectangle.place_of.Goals as goal

stride_step : {a l h : ℕ} → 1 ≤ l → l ≤ h → h ≤ a → 1 ≤ a
stride_step p q r = omega arith

pub bounds-hi-i : goal.bounds-hi-i
bounds-hi-i c = let s = same_lengths _ _ _ c.requires.rectangle in omega (arith, s.high)

pub bounds-lo-i : goal.bounds-lo-i
bounds-lo-i c = let s = same_lengths _ _ _ c.requires.rectangle in omega (arith, s.low)

pub bounds-lo-i-in-loop-i : goal.bounds-lo-i-in-loop-i
bounds-lo-i-in-loop-i c = let s = same_lengths _ _ _ c.requires.rectangle in omega (arith, s.low)

pub overflow_add-side : goal.overflow_add-side
overflow_add-side c = let t = turn c.args.axes.now c.args.lo.now c.args.hi.now c.loop-i.i c.loop-i.start c.loop-i.stride c.loop-i.left _ _ c.loop-i-test.true c.loop-i.invariant.rect c.loop-i.invariant.within c.loop-i.invariant.span c.loop-i.invariant.found in
    let m = room_whole _ _ _ _ _ _ _ _ _ _ _ t c.loop-i.invariant.stride_some in
    record { fits = omega (arith, t.room, m, c.requires.small) }

pub overflow_sub-side : goal.overflow_sub-side
overflow_sub-side c = let t = turn c.args.axes.now c.args.lo.now c.args.hi.now c.loop-i.i c.loop-i.start c.loop-i.stride c.loop-i.left _ _ c.loop-i-test.true c.loop-i.invariant.rect c.loop-i.invariant.within c.loop-i.invariant.span c.loop-i.invariant.found in omega (arith, t.side)

pub overflow_sub-start : goal.overflow_sub-start
overflow_sub-start c = let t = turn c.args.axes.now c.args.lo.now c.args.hi.now c.loop-i.i c.loop-i.start c.loop-i.stride c.loop-i.left _ _ c.loop-i-test.true c.loop-i.invariant.rect c.loop-i.invariant.within c.loop-i.invariant.span c.loop-i.invariant.found in t.some

pub overflow_mul-start : goal.overflow_mul-start
overflow_mul-start c = let t = turn c.args.axes.now c.args.lo.now c.args.hi.now c.loop-i.i c.loop-i.start c.loop-i.stride c.loop-i.left _ _ c.loop-i-test.true c.loop-i.invariant.rect c.loop-i.invariant.within c.loop-i.invariant.span c.loop-i.invariant.found in let b = place-lt-product _ _ _ _ c.requires.rectangle c.requires.within in record { fits = omega (arith, t.step_fits, c.requires.small, b) }

pub overflow_add-start-in-loop-i : goal.overflow_add-start-in-loop-i
overflow_add-start-in-loop-i c = let t = turn c.args.axes.now c.args.lo.now c.args.hi.now c.loop-i.i c.loop-i.start c.loop-i.stride c.loop-i.left _ _ c.loop-i-test.true c.loop-i.invariant.rect c.loop-i.invariant.within c.loop-i.invariant.span c.loop-i.invariant.found in let b = place-lt-product _ _ _ _ c.requires.rectangle c.requires.within in record { fits = omega (arith, t.start_fits, c.requires.small, b) }

pub overflow_mul-stride : goal.overflow_mul-stride
overflow_mul-stride c = let t = turn c.args.axes.now c.args.lo.now c.args.hi.now c.loop-i.i c.loop-i.start c.loop-i.stride c.loop-i.left _ _ c.loop-i-test.true c.loop-i.invariant.rect c.loop-i.invariant.within c.loop-i.invariant.span c.loop-i.invariant.found in record { fits = omega (arith, t.stride_fits, c.requires.small) }

pub loop-i-preserved : goal.loop-i-preserved
loop-i-preserved c = let t = turn c.args.axes.now c.args.lo.now c.args.hi.now c.loop-i.i c.loop-i.start c.loop-i.stride c.loop-i.left _ _ c.loop-i-test.true c.loop-i.invariant.rect c.loop-i.invariant.within c.loop-i.invariant.span c.loop-i.invariant.found in let more = mul-le-mul_left c.loop-i.stride (stride_step t.some t.side t.room) in record { stride_some = omega (arith, more, c.loop-i.invariant.stride_some); rect = t.rest; within = t.within; span = t.span; found = t.found }

pub nonzero_rem-start : goal.nonzero_rem-start
nonzero_rem-start c = let t = turn c.args.axes.now c.args.lo.now c.args.hi.now c.loop-i.i c.loop-i.start c.loop-i.stride c.loop-i.left _ _ c.loop-i-test.true c.loop-i.invariant.rect c.loop-i.invariant.within c.loop-i.invariant.span c.loop-i.invariant.found in omega (arith, t.side)
