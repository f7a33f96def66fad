use Rattle.std.proofs.Common.{inl, subst, sym}
use Rattle.fits_redo.specs.Pair.{Files, Removes, Rests}
use Rattle.fits_redo.specs.Plan.{redone}
use Rattle.fits_redo.specs.Protocol.{IsUnfinished, IsUnfinishedOrDone}
use Rattle.fits_redo.proofs.MomentLemmas.{called, followed, weaker}
use Rattle.fits_redo.proofs.ProtocolLemmas.{fits_of, removes_due}
use Rattle.fits_redo.proofs.applying.finish.Goals as goal

pub returns-in_err-apply-clause-any_moment : goal.returns-in_err-apply-clause-any_moment
returns-in_err-apply-clause-any_moment g c f bytes len new rests due =
    let P : Files → Type 0 = IsUnfinished bytes len c.args.blocks.now new in
    let before : (d : Files) → g.P.Pair.may_leave c.args.pair.now d → P d = λ d now. subst P (sym (rests.only d now)) due in
    weaker g.P.Pair.moment g.P.Pair.left_since c.args.pair.now c.apply.new.pair P (IsUnfinishedOrDone bytes len c.args.blocks.now new) (c.apply.ensures.any_moment bytes len new before) (λ d is. inl is)

pub returns-in_err-settle-clause-any_moment : goal.returns-in_err-settle-clause-any_moment
returns-in_err-settle-clause-any_moment g c f bytes len new rests due =
    let P : Files → Type 0 = IsUnfinished bytes len c.args.blocks.now new in
    let before : (d : Files) → g.P.Pair.may_leave c.args.pair.now d → P d = λ d now. subst P (sym (rests.only d now)) due in
    let applied = c.apply.ensures.any_moment bytes len new before in
    let left : (d : Files) → g.P.Pair.may_leave c.apply.new.pair d → P d = λ d now. applied.each d (g.met.P.Pair.counts_now c.apply.new.pair (g.P.Pair.moment c.args.pair.now) d applied.later now) in
    let settled = called g.P.Pair.moment g.P.Pair.left_since c.apply.new.pair c.settle.new.self (g.P.Pair.may_leave c.apply.new.pair) (g.P.Pair.may_leave c.settle.new.self) P c.settle.ensures.time left (λ d now. left d (c.settle.ensures.crash d now)) in
    weaker g.P.Pair.moment g.P.Pair.left_since c.args.pair.now c.settle.new.self P (IsUnfinishedOrDone bytes len c.args.blocks.now new)
    (followed g.P.Pair.moment g.P.Pair.left_since c.args.pair.now c.apply.new.pair c.settle.new.self P applied settled) (λ d is. inl is)

pub returns-clause-any_moment : goal.returns-clause-any_moment
returns-clause-any_moment g c f bytes len new rests due =
    let P : Files → Type 0 = IsUnfinished bytes len c.args.blocks.now new in
    let Q : Files → Type 0 = IsUnfinishedOrDone bytes len c.args.blocks.now new in
    let before : (d : Files) → g.P.Pair.may_leave c.args.pair.now d → P d = λ d now. subst P (sym (rests.only d now)) due in
    let applied = c.apply.ensures.any_moment bytes len new before in
    let left : (d : Files) → g.P.Pair.may_leave c.apply.new.pair d → P d = λ d now. applied.each d (g.met.P.Pair.counts_now c.apply.new.pair (g.P.Pair.moment c.args.pair.now) d applied.later now) in
    let settled = called g.P.Pair.moment g.P.Pair.left_since c.apply.new.pair c.settle.new.self (g.P.Pair.may_leave c.apply.new.pair) (g.P.Pair.may_leave c.settle.new.self) P c.settle.ensures.time left (λ d now. left d (c.settle.ensures.crash d now)) in
    let so_far = weaker g.P.Pair.moment g.P.Pair.left_since c.args.pair.now c.settle.new.self P Q (followed g.P.Pair.moment g.P.Pair.left_since c.args.pair.now c.apply.new.pair c.settle.new.self P applied settled) (λ d is. inl is) in
    let there : Files = record { file = redone c.args.blocks.now f.file; redo = f.redo } in
    let stood = c.in_ok-apply.ensures.stands f rests.seen (fits_of len c.args.blocks.now f.file due.agrees) in
    let at_rest : Rests g.P.Pair.stands g.P.Pair.may_leave c.settle.new.self there = record { seen = c.settle.ensures.stands there stood; only = c.in_ok-settle.ensures.only there stood } in
    let cleared = weaker g.P.Pair.moment g.P.Pair.left_since c.settle.new.self c.clear.new.pair (Removes there) Q (c.clear.ensures.any_moment there at_rest) (λ d removed. removes_due bytes len c.args.blocks.now new f there d due (λ _. f.redo) (λ _. there.file) removed) in
    followed g.P.Pair.moment g.P.Pair.left_since c.args.pair.now c.settle.new.self c.clear.new.pair Q so_far cleared
