use Rattle.std.proofs.Common.{rules, [], take, subst, arith}
use Rattle.fits_redo.specs.Pair.{Files}
use Rattle.fits_redo.specs.Plan.{redone}
use Rattle.fits_redo.specs.Protocol.{IsUnfinished}
use Rattle.fits_redo.proofs.MomentLemmas.{called, followed}
use Rattle.fits_redo.proofs.ProtocolLemmas.{writes_due, has_next, redone_next}
use Rattle.fits_redo.proofs.applying.apply.Goals as goal

pub returns-in_err-write_block-clause-any_moment :
    goal.returns-in_err-write_block-clause-any_moment
returns-in_err-write_block-clause-any_moment g c bytes len new before =
    let left = c.loop-block.invariant.left bytes len new before in
    let after : (d : Files) → g.P.Pair.may_leave c.write_block.new.self d → IsUnfinished bytes len c.args.blocks.now new d = λ d now.
    let from = c.write_block.ensures.crash d now in
    writes_due bytes len c.args.blocks.now new c.loop-block.block-index (record { index = 0; old = []; new = [] }) from.0 d c.loop-block-test.true (left from.0 from.1) from.2 in
    followed g.P.Pair.moment g.P.Pair.left_since c.args.pair.now c.loop-block.pair c.write_block.new.self (IsUnfinished bytes len c.args.blocks.now new) (c.loop-block.invariant.moments bytes len new before)
    (called g.P.Pair.moment g.P.Pair.left_since c.loop-block.pair c.write_block.new.self (g.P.Pair.may_leave c.loop-block.pair) (g.P.Pair.may_leave c.write_block.new.self) (IsUnfinished bytes len c.args.blocks.now new) c.write_block.ensures.time left after)

pub loop-block-preserved : goal.loop-block-preserved
loop-block-preserved g c = record {
  seen = λ f here h.
      let stood = c.loop-block.invariant.seen f here h in
      let wrote = c.in_ok-write_block.ensures.stands (record { file = redone (take c.loop-block.block-index c.args.blocks.now) f.file; redo = f.redo }) stood (has_next c.args.blocks.now c.loop-block.block-index (record { index = 0; old = []; new = [] }) f.file c.loop-block-test.true h) in
      subst (λ l. g.P.Pair.stands c.write_block.new.self (record { file = l; redo = f.redo })) (redone_next c.args.blocks.now c.loop-block.block-index (record { index = 0; old = []; new = [] }) f.file c.loop-block-test.true) wrote;
  moments = λ bytes len new before.
      let left = c.loop-block.invariant.left bytes len new before in
      let after : (d : Files) → g.P.Pair.may_leave c.write_block.new.self d → IsUnfinished bytes len c.args.blocks.now new d = λ d now.
      let from = c.write_block.ensures.crash d now in
      writes_due bytes len c.args.blocks.now new c.loop-block.block-index (record { index = 0; old = []; new = [] }) from.0 d c.loop-block-test.true (left from.0 from.1) from.2 in
      followed g.P.Pair.moment g.P.Pair.left_since c.args.pair.now c.loop-block.pair c.write_block.new.self (IsUnfinished bytes len c.args.blocks.now new) (c.loop-block.invariant.moments bytes len new before)
      (called g.P.Pair.moment g.P.Pair.left_since c.loop-block.pair c.write_block.new.self (g.P.Pair.may_leave c.loop-block.pair) (g.P.Pair.may_leave c.write_block.new.self) (IsUnfinished bytes len c.args.blocks.now new) c.write_block.ensures.time left after);
  left = λ bytes len new before d now.
      let from = c.write_block.ensures.crash d now in
      writes_due bytes len c.args.blocks.now new c.loop-block.block-index (record { index = 0; old = []; new = [] }) from.0 d c.loop-block-test.true (c.loop-block.invariant.left bytes len new before from.0 from.1) from.2;
  failed = search rules;
  written = omega (arith, c.write_block.ensures.written, c.loop-block.invariant.written);
}
