use Rattle.std.proofs.Common.{◌∷◌, Some, subst}
use Rattle.fits_redo.specs.Pair.{Files, Opens}
use Rattle.fits_redo.specs.Protocol.{IsStaged}
use Rattle.fits_redo.proofs.MomentLemmas.{called, followed, on_ok}
use Rattle.fits_redo.proofs.StagedLemmas.{opened_staged}
use Rattle.fits_redo.proofs.staging.open.Goals as goal

pub returns-in_err-open_redo-clause-any_moment : goal.returns-in_err-open_redo-clause-any_moment
returns-in_err-open_redo-clause-any_moment g c file rest new here before makes =
    let P : Files → Type 0 = IsStaged file new in
    let there : Files = record { file = file; redo = Some (0 ∷ rest) } in
    let still : (d : Files) → g.P.Pair.may_leave c.settle.new.self d → P d = λ d now. before d (c.settle.ensures.crash d now) in
    let settled = called g.P.Pair.moment g.P.Pair.left_since c.args.pair.now c.settle.new.self (g.P.Pair.may_leave c.args.pair.now) (g.P.Pair.may_leave c.settle.new.self) P c.settle.ensures.time before still in
    let left : (d : Files) → g.P.Pair.may_leave c.open_redo.new.self d → P d = λ d now.
    let from = c.open_redo.ensures.crash d now in
    opened_staged file new rest d makes (subst (λ e. Opens e d) (c.in_ok-settle.ensures.only there here from.0 from.1) from.2) in
    followed g.P.Pair.moment g.P.Pair.left_since c.args.pair.now c.settle.new.self c.open_redo.new.self P settled
    (called g.P.Pair.moment g.P.Pair.left_since c.settle.new.self c.open_redo.new.self (g.P.Pair.may_leave c.settle.new.self) (g.P.Pair.may_leave c.open_redo.new.self) P c.open_redo.ensures.time still left)

pub returns-clause-any_moment : goal.returns-clause-any_moment
returns-clause-any_moment g c file rest new here before makes =
    let P : Files → Type 0 = IsStaged file new in
    let there : Files = record { file = file; redo = Some (0 ∷ rest) } in
    let still : (d : Files) → g.P.Pair.may_leave c.settle.new.self d → P d = λ d now. before d (c.settle.ensures.crash d now) in
    let settled = called g.P.Pair.moment g.P.Pair.left_since c.args.pair.now c.settle.new.self (g.P.Pair.may_leave c.args.pair.now) (g.P.Pair.may_leave c.settle.new.self) P c.settle.ensures.time before still in
    let left : (d : Files) → g.P.Pair.may_leave c.open_redo.new.self d → P d = λ d now.
    let from = c.open_redo.ensures.crash d now in
    opened_staged file new rest d makes (subst (λ e. Opens e d) (c.in_ok-settle.ensures.only there here from.0 from.1) from.2) in
    let opened = followed g.P.Pair.moment g.P.Pair.left_since c.args.pair.now c.settle.new.self c.open_redo.new.self P settled
    (called g.P.Pair.moment g.P.Pair.left_since c.settle.new.self c.open_redo.new.self (g.P.Pair.may_leave c.settle.new.self) (g.P.Pair.may_leave c.open_redo.new.self) P c.open_redo.ensures.time still left) in
    followed g.P.Pair.moment g.P.Pair.left_since c.args.pair.now c.open_redo.new.self c.settle-2.new.self P opened
    (called g.P.Pair.moment g.P.Pair.left_since c.open_redo.new.self c.settle-2.new.self (g.P.Pair.may_leave c.open_redo.new.self) (g.P.Pair.may_leave c.settle-2.new.self) P c.settle-2.ensures.time left (λ d now. left d (c.settle-2.ensures.crash d now)))

pub returns-clause-ok : goal.returns-clause-ok
returns-clause-ok g c file rest here =
    let there : Files = record { file = file; redo = Some (0 ∷ rest) } in
    let opened : Files = record { file = file; redo = Some (1 ∷ rest) } in
    let stood : g.P.Pair.stands c.open_redo.new.self opened = c.in_ok-open_redo.ensures.stands there (0 ∷ rest) (c.settle.ensures.stands there here) (λ _. there.redo) in
    on_ok c.settle-2.result (c.settle-2.ensures.only opened stood) (λ only. record { seen = c.settle-2.ensures.stands opened stood; only = only })
