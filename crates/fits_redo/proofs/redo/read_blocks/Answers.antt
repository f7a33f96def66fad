use Rattle.std.proofs.Common.{◌≡◌, ◌<◌, ◌++◌, length, length-drop, ap, sym, subst, arith}
use Rattle.fits_redo.specs.Redo.{told_blocks}
use Rattle.fits_redo.proofs.TellsLemmas.{told_next, told_end}
use Rattle.fits_redo.proofs.redo.read_blocks.Goals as goal

pub loop-block-smaller : goal.loop-block-smaller
loop-block-smaller c =
    let it = c.in-Some.ensures in
    let less : length c.in-Some.more.now < length c.loop-block.rest.now = omega (arith, ap length it.2, length-drop 5768 c.loop-block.rest.now, it.0) in
    less

pub loop-block-preserved : goal.loop-block-preserved
loop-block-preserved c count size =
    let it = c.in-Some.ensures in
    let so_far = c.loop-block.invariant count size in
    let next = told_next c.loop-block.told.items c.in-Some.block c.loop-block.rest.now c.in-Some.more.now so_far.0 (told_blocks count c.args.entries.now) so_far.1 it.0 it.1 it.2 so_far.2 in
    (next.0, next.1, subst (λ l. l ++ told_blocks next.0 c.in-Some.more.now ≡ told_blocks count c.args.entries.now) (sym c.in_ok-push.ensures.items) next.2)

pub returns : goal.returns
returns c count size =
    let so_far = c.loop-block.invariant count size in
    told_end c.loop-block.told.items c.loop-block.rest.now so_far.0 (told_blocks count c.args.entries.now) so_far.1 c.in_default.ensures so_far.2
