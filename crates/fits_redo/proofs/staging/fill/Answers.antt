use Rattle.std.proofs.Common.{◌∷◌, ◌++◌, Some, subst}
use Rattle.fits_redo.specs.Pair.{Files, Grows}
use Rattle.fits_redo.specs.Protocol.{IsStaged}
use Rattle.fits_redo.proofs.MomentLemmas.{called, followed}
use Rattle.fits_redo.proofs.StagedLemmas.{grown_staged}
use Rattle.fits_redo.proofs.staging.fill.Goals as goal

pub returns-in_err-add_redo-clause-any_moment : goal.returns-in_err-add_redo-clause-any_moment
returns-in_err-add_redo-clause-any_moment g c file rest new here before makes =
    let P : Files → Type 0 = IsStaged file new in
    let there : Files = record { file = file; redo = Some (0 ∷ rest) } in
    let still : (d : Files) → g.P.Pair.may_leave c.settle.new.self d → P d = λ d now. before d (c.settle.ensures.crash d now) in
    let settled = called g.P.Pair.moment g.P.Pair.left_since c.args.pair.now c.settle.new.self (g.P.Pair.may_leave c.args.pair.now) (g.P.Pair.may_leave c.settle.new.self) P c.settle.ensures.time before still in
    let left : (d : Files) → g.P.Pair.may_leave c.add_redo.new.self d → P d = λ d now.
    let from = c.add_redo.ensures.crash d now in
    grown_staged file new rest d (subst (λ e. Grows e d) (c.in_ok-settle.ensures.only there here from.0 from.1) from.2) in
    followed g.P.Pair.moment g.P.Pair.left_since c.args.pair.now c.settle.new.self c.add_redo.new.self P settled
    (called g.P.Pair.moment g.P.Pair.left_since c.settle.new.self c.add_redo.new.self (g.P.Pair.may_leave c.settle.new.self) (g.P.Pair.may_leave c.add_redo.new.self) P c.add_redo.ensures.time still left)

pub returns-clause-any_moment : goal.returns-clause-any_moment
returns-clause-any_moment g c file rest new here before makes =
    let P : Files → Type 0 = IsStaged file new in
    let there : Files = record { file = file; redo = Some (0 ∷ rest) } in
    let still : (d : Files) → g.P.Pair.may_leave c.settle.new.self d → P d = λ d now. before d (c.settle.ensures.crash d now) in
    let settled = called g.P.Pair.moment g.P.Pair.left_since c.args.pair.now c.settle.new.self (g.P.Pair.may_leave c.args.pair.now) (g.P.Pair.may_leave c.settle.new.self) P c.settle.ensures.time before still in
    let left : (d : Files) → g.P.Pair.may_leave c.add_redo.new.self d → P d = λ d now.
    let from = c.add_redo.ensures.crash d now in
    grown_staged file new rest d (subst (λ e. Grows e d) (c.in_ok-settle.ensures.only there here from.0 from.1) from.2) in
    let added = followed g.P.Pair.moment g.P.Pair.left_since c.args.pair.now c.settle.new.self c.add_redo.new.self P settled
    (called g.P.Pair.moment g.P.Pair.left_since c.settle.new.self c.add_redo.new.self (g.P.Pair.may_leave c.settle.new.self) (g.P.Pair.may_leave c.add_redo.new.self) P c.add_redo.ensures.time still left) in
    let stood = c.in_ok-add_redo.ensures.stands there (0 ∷ rest) (c.settle.ensures.stands there here) (λ _. there.redo) in
    followed g.P.Pair.moment g.P.Pair.left_since c.args.pair.now c.add_redo.new.self c.open.new.pair P added (c.open.ensures.any_moment file (rest ++ c.args.entries.now) new stood left makes)

pub returns-clause-ok : goal.returns-clause-ok
returns-clause-ok g c file rest here =
    let there : Files = record { file = file; redo = Some (0 ∷ rest) } in
    c.open.ensures.ok file (rest ++ c.args.entries.now) (c.in_ok-add_redo.ensures.stands there (0 ∷ rest) (c.settle.ensures.stands there here) (λ _. there.redo))
