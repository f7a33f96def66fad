use Rattle.std.proofs.Common.{◌≡◌, ◌⊎◌, inl, inr, true, sym, ◌∙◌, ap, subst}
use Rattle.fits_redo.specs.Pair.{Files}
use Rattle.fits_redo.specs.Plan.{agrees, redone}
use Rattle.fits_redo.specs.Protocol.{IsUnfinished, IsUnfinishedOrDone}
use Rattle.fits_redo.specs.Redo.{recovered}
use Rattle.fits_redo.proofs.MomentLemmas.{followed, weaker, left_now, on_err}
use Rattle.fits_redo.proofs.TellsLemmas.{Tells, due_recovered, told_recovered}
use Rattle.fits_redo.proofs.overwriting.resume.Goals as goal

pub returns-clause-any_moment : goal.returns-clause-any_moment
returns-clause-any_moment g c f bytes here is it =
    let len = c.args.plan.now.len in
    let blocks = c.args.plan.now.blocks.items in
    let Q : Files → Type 0 = λ d. g.P.Pair.may_leave c.args.pair.now d ⊎ (recovered d ≡ recovered f) in
    let told : Tells bytes len blocks = record { opened = it.0; whole = it.1; length = sym it.2; list = sym it.3 } in
    let good : agrees len blocks f.file ≡ true = subst (λ l. agrees len l f.file ≡ true) c.deref.ensures.value (c.in_ok-begin.ensures.agrees f here) in
    let again = c.deref-2.result.now in
    let same : again ≡ blocks = c.deref-2.ensures.value in
    let due : IsUnfinished bytes len again (recovered f) f = record { redo = is; agrees = subst (λ l. agrees len l f.file ≡ true) (sym same) good; gives = ap (λ l. redone l f.file) same ∙ told_recovered bytes len blocks f is told good } in
    let told_again : Tells bytes len again = subst (λ l. Tells bytes len l) (sym same) told in
    let begun = weaker g.P.Pair.moment g.P.Pair.left_since c.args.pair.now c.begin.new.pair (g.P.Pair.may_leave c.args.pair.now) Q c.begin.ensures.any_moment (λ d was. inl was) in
    let completed = c.complete.ensures.any_moment f bytes len (recovered f) (c.in_ok-begin.ensures.ok f here) due in
    followed g.P.Pair.moment g.P.Pair.left_since c.args.pair.now c.begin.new.pair c.complete.new.pair Q begun
    (weaker g.P.Pair.moment g.P.Pair.left_since c.begin.new.pair c.complete.new.pair (IsUnfinishedOrDone bytes len again (recovered f)) Q completed (λ d done. inr (due_recovered bytes len again (recovered f) d told_again done)))

pub returns-clause-ok : goal.returns-clause-ok
returns-clause-ok g c f bytes here is it =
    let len = c.args.plan.now.len in
    let blocks = c.args.plan.now.blocks.items in
    let told : Tells bytes len blocks = record { opened = it.0; whole = it.1; length = sym it.2; list = sym it.3 } in
    let good : agrees len blocks f.file ≡ true = subst (λ l. agrees len l f.file ≡ true) c.deref.ensures.value (c.in_ok-begin.ensures.agrees f here) in
    let again = c.deref-2.result.now in
    let same : again ≡ blocks = c.deref-2.ensures.value in
    let due : IsUnfinished bytes len again (recovered f) f = record { redo = is; agrees = subst (λ l. agrees len l f.file ≡ true) (sym same) good; gives = ap (λ l. redone l f.file) same ∙ told_recovered bytes len blocks f is told good } in
    c.complete.ensures.ok f bytes len (recovered f) (c.in_ok-begin.ensures.ok f here) due

pub returns-clause-in_part : goal.returns-clause-in_part
returns-clause-in_part g c f bytes here is it =
    let len = c.args.plan.now.len in
    let blocks = c.args.plan.now.blocks.items in
    let told : Tells bytes len blocks = record { opened = it.0; whole = it.1; length = sym it.2; list = sym it.3 } in
    let good : agrees len blocks f.file ≡ true = subst (λ l. agrees len l f.file ≡ true) c.deref.ensures.value (c.in_ok-begin.ensures.agrees f here) in
    let again = c.deref-2.result.now in
    let same : again ≡ blocks = c.deref-2.ensures.value in
    let due : IsUnfinished bytes len again (recovered f) f = record { redo = is; agrees = subst (λ l. agrees len l f.file ≡ true) (sym same) good; gives = ap (λ l. redone l f.file) same ∙ told_recovered bytes len blocks f is told good } in
    let told_again : Tells bytes len again = subst (λ l. Tells bytes len l) (sym same) told in
    let completed = c.complete.ensures.any_moment f bytes len (recovered f) (c.in_ok-begin.ensures.ok f here) due in
    on_err c.complete.result (λ fault part d now. due_recovered bytes len again (recovered f) d told_again (left_now g.P.Pair.moment g.P.Pair.left_since g.P.Pair.may_leave g.met.P.Pair.counts_now c.begin.new.pair c.complete.new.pair (IsUnfinishedOrDone bytes len again (recovered f)) completed d now))
