use Rattle.std.proofs.Common.{length, Some, sym, subst}
use Rattle.fits_redo.specs.Pair.{Files, Begins}
use Rattle.fits_redo.specs.Protocol.{IsStaged}
use Rattle.fits_redo.proofs.MomentLemmas.{called, followed, left_now}
use Rattle.fits_redo.proofs.StagedLemmas.{alone_staged, begun_staged, removed_staged}
use Rattle.fits_redo.proofs.staging.stage.Goals as goal

pub returns-in_default-clause-any_moment : goal.returns-in_default-clause-any_moment
returns-in_default-clause-any_moment g c f rest new rests none is short makes =
    let P : Files → Type 0 = IsStaged f.file new in
    let before : (d : Files) → g.P.Pair.may_leave c.args.pair.now d → P d = λ d now. subst P (sym (rests.only d now)) (alone_staged f.file new f (λ _. f.file) none) in
    let left : (d : Files) → g.P.Pair.may_leave c.make_redo.new.self d → P d = λ d now.
    let from = c.make_redo.ensures.crash d now in
    begun_staged (length c.args.head.now) new f d none short (subst (λ e. Begins (length c.args.head.now) e d) (rests.only from.0 from.1) from.2) in
    let made = called g.P.Pair.moment g.P.Pair.left_since c.args.pair.now c.make_redo.new.self (g.P.Pair.may_leave c.args.pair.now) (g.P.Pair.may_leave c.make_redo.new.self) P c.make_redo.ensures.time before left in
    let stood = subst (λ h. g.P.Pair.stands c.make_redo.new.self (record { file = f.file; redo = Some h })) is (c.in_ok-make_redo.ensures.stands f rests.seen) in
    followed g.P.Pair.moment g.P.Pair.left_since c.args.pair.now c.make_redo.new.self c.fill.new.pair P made (c.fill.ensures.any_moment f.file rest new stood left makes)

pub returns-clause-any_moment : goal.returns-clause-any_moment
returns-clause-any_moment g c f rest new rests none is short makes =
    let P : Files → Type 0 = IsStaged f.file new in
    let before : (d : Files) → g.P.Pair.may_leave c.args.pair.now d → P d = λ d now. subst P (sym (rests.only d now)) (alone_staged f.file new f (λ _. f.file) none) in
    let left : (d : Files) → g.P.Pair.may_leave c.make_redo.new.self d → P d = λ d now.
    let from = c.make_redo.ensures.crash d now in
    begun_staged (length c.args.head.now) new f d none short (subst (λ e. Begins (length c.args.head.now) e d) (rests.only from.0 from.1) from.2) in
    let made = called g.P.Pair.moment g.P.Pair.left_since c.args.pair.now c.make_redo.new.self (g.P.Pair.may_leave c.args.pair.now) (g.P.Pair.may_leave c.make_redo.new.self) P c.make_redo.ensures.time before left in
    let stood = subst (λ h. g.P.Pair.stands c.make_redo.new.self (record { file = f.file; redo = Some h })) is (c.in_ok-make_redo.ensures.stands f rests.seen) in
    let filled = c.fill.ensures.any_moment f.file rest new stood left makes in
    let filled_left = left_now g.P.Pair.moment g.P.Pair.left_since g.P.Pair.may_leave g.met.P.Pair.counts_now c.make_redo.new.self c.fill.new.pair P filled in
    let removed : (d : Files) → g.P.Pair.may_leave c.remove_redo.new.self d → P d = λ d now. let from = c.remove_redo.ensures.crash d now in removed_staged f.file new from.0 d (filled_left from.0 from.1) from.2 in
    followed g.P.Pair.moment g.P.Pair.left_since c.args.pair.now c.fill.new.pair c.remove_redo.new.self P
    (followed g.P.Pair.moment g.P.Pair.left_since c.args.pair.now c.make_redo.new.self c.fill.new.pair P made filled)
    (called g.P.Pair.moment g.P.Pair.left_since c.fill.new.pair c.remove_redo.new.self (g.P.Pair.may_leave c.fill.new.pair) (g.P.Pair.may_leave c.remove_redo.new.self) P c.remove_redo.ensures.time filled_left removed)
