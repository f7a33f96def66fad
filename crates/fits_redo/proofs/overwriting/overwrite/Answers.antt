use Rattle.std.proofs.Common.{◌≡◌, ◌⊎◌, inl, inr, ◌*◌, ◌<◌, true, List, ℕ, ◌∷◌, ◌++◌, length, vec_len, Some, sym, ◌∙◌, ap, subst, arith}
use Rattle.std.specs.List.{flat_map}
use Rattle.fits_redo.specs.Pair.{Files}
use Rattle.fits_redo.specs.Plan.{agrees, redone}
use Rattle.fits_redo.specs.Protocol.{IsUnfinished, IsUnfinishedOrDone, IsEither, IsStaged}
use Rattle.fits_redo.specs.Redo.{entry}
use Rattle.fits_redo.proofs.MomentLemmas.{followed, weaker, left_now, on_err}
use Rattle.fits_redo.proofs.TellsLemmas.{Tells, behind_gate, plan_tells, due_made, due_recovered, some_if}
use Rattle.fits_redo.proofs.overwriting.overwrite.Goals as goal

pub returns-in-Err-clause-any_moment : goal.returns-in-Err-clause-any_moment
returns-in-Err-clause-any_moment g c f here none =
    let len = c.args.plan.now.len in
    let blocks = c.args.plan.now.blocks.items in
    let new : List ℕ = redone blocks f.file in
    let E = c.deref-4.result.now in
    let bytes : List ℕ = 1 ∷ behind_gate len (length blocks) ++ E in
    let Q : Files → Type 0 = λ d. g.P.Pair.may_leave c.args.pair.now d ⊎ IsEither f.file new d in
    let rests = c.in_ok-begin.ensures.ok f here in
    let good : agrees len blocks f.file ≡ true = subst (λ l. agrees len l f.file ≡ true) c.deref.ensures.value (c.in_ok-begin.ensures.agrees f here) in
    let some : 0 < length blocks = some_if (vec_len c.args.plan.now.blocks) (length blocks) c.is_empty.result c.is_empty.ensures c.if-is_empty.false c.args.plan.now.blocks.ok.0 in
    let is : E ≡ flat_map entry blocks = c.deref-4.ensures.value ∙ c.in_ok-entries.ensures.value ∙ ap (λ l. flat_map entry l) c.deref-2.ensures.value in
    let told = plan_tells len blocks f.file E good some c.in_ok-head.ensures.small c.in_ok-head.ensures.few is in
    let begun = weaker g.P.Pair.moment g.P.Pair.left_since c.args.pair.now c.begin.new.pair (g.P.Pair.may_leave c.args.pair.now) Q c.begin.ensures.any_moment (λ d was. inl was) in
    let staged = c.stage.ensures.any_moment f (behind_gate len (length blocks)) new rests none (c.deref-3.ensures.value ∙ c.in_ok-head.ensures.value) (omega (arith, ap length c.deref-3.ensures.value, c.in_ok-head.ensures.len)) (due_made bytes len blocks f.file told good) in
    followed g.P.Pair.moment g.P.Pair.left_since c.args.pair.now c.begin.new.pair c.stage.new.pair Q begun
    (weaker g.P.Pair.moment g.P.Pair.left_since c.begin.new.pair c.stage.new.pair (IsStaged f.file new) Q staged (λ d it. inr it.either))

pub returns-in-Err-clause-written : goal.returns-in-Err-clause-written
returns-in-Err-clause-written g c =
    let head_size : length c.deref-3.result.now ≡ 24 = ap length c.deref-3.ensures.value ∙ c.in_ok-head.ensures.len in
    let size : length c.deref-4.result.now ≡ 5768 * length c.deref-2.result.now = ap length c.deref-4.ensures.value ∙ c.in_ok-entries.ensures.len in
    omega (arith, c.begin.ensures.written, c.stage.ensures.written, head_size, size, ap length c.deref-2.ensures.value)

pub returns-clause-any_moment : goal.returns-clause-any_moment
returns-clause-any_moment g c f here none =
    let len = c.args.plan.now.len in
    let blocks = c.args.plan.now.blocks.items in
    let new : List ℕ = redone blocks f.file in
    let E = c.deref-4.result.now in
    let bytes : List ℕ = 1 ∷ behind_gate len (length blocks) ++ E in
    let Q : Files → Type 0 = λ d. g.P.Pair.may_leave c.args.pair.now d ⊎ IsEither f.file new d in
    let rests = c.in_ok-begin.ensures.ok f here in
    let good : agrees len blocks f.file ≡ true = subst (λ l. agrees len l f.file ≡ true) c.deref.ensures.value (c.in_ok-begin.ensures.agrees f here) in
    let some : 0 < length blocks = some_if (vec_len c.args.plan.now.blocks) (length blocks) c.is_empty.result c.is_empty.ensures c.if-is_empty.false c.args.plan.now.blocks.ok.0 in
    let is : E ≡ flat_map entry blocks = c.deref-4.ensures.value ∙ c.in_ok-entries.ensures.value ∙ ap (λ l. flat_map entry l) c.deref-2.ensures.value in
    let told = plan_tells len blocks f.file E good some c.in_ok-head.ensures.small c.in_ok-head.ensures.few is in
    let head_is = c.deref-3.ensures.value ∙ c.in_ok-head.ensures.value in
    let begun = weaker g.P.Pair.moment g.P.Pair.left_since c.args.pair.now c.begin.new.pair (g.P.Pair.may_leave c.args.pair.now) Q c.begin.ensures.any_moment (λ d was. inl was) in
    let staged = c.stage.ensures.any_moment f (behind_gate len (length blocks)) new rests none head_is (omega (arith, ap length c.deref-3.ensures.value, c.in_ok-head.ensures.len)) (due_made bytes len blocks f.file told good) in
    let so_far = followed g.P.Pair.moment g.P.Pair.left_since c.args.pair.now c.begin.new.pair c.stage.new.pair Q begun
    (weaker g.P.Pair.moment g.P.Pair.left_since c.begin.new.pair c.stage.new.pair (IsStaged f.file new) Q staged (λ d it. inr it.either)) in
    let there : Files = record { file = f.file; redo = Some bytes } in
    let again = c.deref-5.result.now in
    let same : again ≡ blocks = c.deref-5.ensures.value in
    let due : IsUnfinished bytes len again new there = record { redo = λ _. there.redo; agrees = subst (λ l. agrees len l f.file ≡ true) (sym same) good; gives = ap (λ l. redone l f.file) same } in
    let told_again : Tells bytes len again = subst (λ l. Tells bytes len l) (sym same) told in
    let completed = c.complete.ensures.any_moment there bytes len new (c.in_default.ensures.ok f (behind_gate len (length blocks)) rests head_is) due in
    followed g.P.Pair.moment g.P.Pair.left_since c.args.pair.now c.stage.new.pair c.complete.new.pair Q so_far
    (weaker g.P.Pair.moment g.P.Pair.left_since c.stage.new.pair c.complete.new.pair (IsUnfinishedOrDone bytes len again new) Q completed (λ d it. inr (inr (due_recovered bytes len again new d told_again it))))

pub returns-clause-ok : goal.returns-clause-ok
returns-clause-ok g c f here none =
    let len = c.args.plan.now.len in
    let blocks = c.args.plan.now.blocks.items in
    let new : List ℕ = redone blocks f.file in
    let bytes : List ℕ = 1 ∷ behind_gate len (length blocks) ++ c.deref-4.result.now in
    let good : agrees len blocks f.file ≡ true = subst (λ l. agrees len l f.file ≡ true) c.deref.ensures.value (c.in_ok-begin.ensures.agrees f here) in
    let there : Files = record { file = f.file; redo = Some bytes } in
    let again = c.deref-5.result.now in
    let same : again ≡ blocks = c.deref-5.ensures.value in
    let due : IsUnfinished bytes len again new there = record { redo = λ _. there.redo; agrees = subst (λ l. agrees len l f.file ≡ true) (sym same) good; gives = ap (λ l. redone l f.file) same } in
    c.complete.ensures.ok there bytes len new (c.in_default.ensures.ok f (behind_gate len (length blocks)) (c.in_ok-begin.ensures.ok f here) (c.deref-3.ensures.value ∙ c.in_ok-head.ensures.value)) due

pub returns-clause-in_part : goal.returns-clause-in_part
returns-clause-in_part g c f here none =
    let len = c.args.plan.now.len in
    let blocks = c.args.plan.now.blocks.items in
    let new : List ℕ = redone blocks f.file in
    let E = c.deref-4.result.now in
    let bytes : List ℕ = 1 ∷ behind_gate len (length blocks) ++ E in
    let good : agrees len blocks f.file ≡ true = subst (λ l. agrees len l f.file ≡ true) c.deref.ensures.value (c.in_ok-begin.ensures.agrees f here) in
    let some : 0 < length blocks = some_if (vec_len c.args.plan.now.blocks) (length blocks) c.is_empty.result c.is_empty.ensures c.if-is_empty.false c.args.plan.now.blocks.ok.0 in
    let is : E ≡ flat_map entry blocks = c.deref-4.ensures.value ∙ c.in_ok-entries.ensures.value ∙ ap (λ l. flat_map entry l) c.deref-2.ensures.value in
    let told = plan_tells len blocks f.file E good some c.in_ok-head.ensures.small c.in_ok-head.ensures.few is in
    let there : Files = record { file = f.file; redo = Some bytes } in
    let again = c.deref-5.result.now in
    let same : again ≡ blocks = c.deref-5.ensures.value in
    let due : IsUnfinished bytes len again new there = record { redo = λ _. there.redo; agrees = subst (λ l. agrees len l f.file ≡ true) (sym same) good; gives = ap (λ l. redone l f.file) same } in
    let told_again : Tells bytes len again = subst (λ l. Tells bytes len l) (sym same) told in
    let completed = c.complete.ensures.any_moment there bytes len new (c.in_default.ensures.ok f (behind_gate len (length blocks)) (c.in_ok-begin.ensures.ok f here) (c.deref-3.ensures.value ∙ c.in_ok-head.ensures.value)) due in
    on_err c.complete.result (λ fault part d now. due_recovered bytes len again new d told_again (left_now g.P.Pair.moment g.P.Pair.left_since g.P.Pair.may_leave g.met.P.Pair.counts_now c.stage.new.pair c.complete.new.pair (IsUnfinishedOrDone bytes len again new) completed d now))

pub returns-clause-written : goal.returns-clause-written
returns-clause-written g c =
    let head_size : length c.deref-3.result.now ≡ 24 = ap length c.deref-3.ensures.value ∙ c.in_ok-head.ensures.len in
    let size : length c.deref-4.result.now ≡ 5768 * length c.deref-2.result.now = ap length c.deref-4.ensures.value ∙ c.in_ok-entries.ensures.len in
    omega (arith, c.begin.ensures.written, c.stage.ensures.written, c.complete.ensures.written, head_size, size, ap length c.deref-2.ensures.value, ap length c.deref-5.ensures.value)
