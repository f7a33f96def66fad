-- `of` takes a box apart, and keeps its address and what it owned: a walk of its MIR, by hand.
use Rattle.std.proofs.Common.{◌≡◌, List, [], ◌∷◌, ◌++◌, Some, refl, sym, ap, subst, ◌∙◌}
use mir.Syntax.{Ty, impl, tcons, tnil, dnil, method}
use mir.Raw.{raw as bare}
use lib.Dec.{T as holds}
use mir.Val.{Val, vptr, vstruct, vcons, vnil, has_ty, WT}
use base.Fraction.{full_share}
use base.Logic.{SProp, ent, id⊢, emp, never, fst∗}
use base.Fml.{Lft, ftrue, flft}
use prog.Wp.{WpFn}
use types.Kit.{‵, raw, ◌⊛◌, some, later, ◌$◌, ◌∵◌, !, qed, by, move, keep, drop, split, join, fsplit, fjoin, fpack, pick, suffices, use0, use1, await, feq_i, feq_l}
use types.Logic.{sem}
use types.Run.{of_opd, no_more, and_then, returns, enter}
use types.ByLocal.{alloc_all, pass_all, free_all, look_at, get, sets, lands_as}
use types.Part.{agg}
use contract.Monad.{fact, fact_i}
use contract.BorrowLft.{◌⊑◌}
use contract.Running.{tables}
use denote.Builtin.{RawPtr}
use denote.Exit.{yes, no}
use denote.RattleType.{RattleType, Valss, owns}
use denote.Signature.{types_at, plain}
use denote.Laws.{Is, shows}
use denote.RawPtr.{Ptr, block_ptr, null_ptr, ptr_val, in_a_block}
use denote.Steps.{nothing, only, peeks}
use denote.Struct.Struct.{within}
use denote.Struct.Owning.{shape}
use denote.Param as Param
use denote.Param.{arg, layout, param}
use denote.Param.Laws.{arg_laws, param_laws}
use denote.Param.NoDrop.{glues}
use denote.Triple.Carry as Carry
use denote.Triple.Clauses as Clauses
use denote.Triple.Clauses.{Lasts, lasts}
use denote.Triple.Spec.{triple_of}
use denote.Triple.Call.{calls_at}
use denote.Triple.Walked as Walked
use denote.Triple.Walked.{Stays, stay_dropped, walk_of}
use denote.Triple.Table.{framed}
use borrow.Fn.Glue as Glue
use borrow.Fn.Impl as Impl
use borrow.Fn.Kinds as Kinds
use borrow.Fn.Kind.{ParamKind}
use borrow.Kind.Owned.{p_owned}
use denote.Param.Mute.{Mute-seen}
use borrow.Fn.Run as running
use borrow.Fn.World.{World}
use Rattle.std.proofs.alloc.Calls.{Goes-blank}
use Rattle.std.proofs.raw_atomic.Walks.{proved_at, leaves}
use Rattle.std_alloc.proofs.BoxSteps.Form as box
use Rattle.std_alloc.proofs.BoxSteps.Steps.{box_out, box_in}
use Rattle.std_alloc.specs.Box.Ownership.{box_owns}
use Rattle.std_alloc.specs.contracts.boxed.Box as boxed
use Rattle.std_alloc.specs.contracts.boxed.Box.into_raw as callee
use Rattle.std_alloc.proofs.boxed.Box.into_raw.Met.{met}
use Rattle.std_heap.proofs.Handle.{heap_val, heap_Tells}
use Rattle.std_heap.proofs.Global.TheLaws as heap_laws
use Rattle.std_heap.proofs.GlobalAllocator.TheImpl.Met.{passed}
use Rattle.std_heap.specs.contracts.Global as heap
use Rattle.std_heap.specs.contracts.GlobalAllocator.TheImpl.{ghosts, dict}
use Rattle.fits_c.proofs.Destruct++none.drop.Code
use Rattle.fits_c.proofs.fits_c++outcome++Outcome+Destruct.drop.Kinds as dropped
use Rattle.fits_c.proofs.fits_c++outcome++Outcome+Destruct.drop.Met as dropped_met
use Rattle.fits_c.proofs.fits_c++outcome++Outcome+Destruct.drop.Reads as dropped_reads
use Rattle.fits_c.proofs.fits_c++outcome++Outcome+Destruct.drop.Symbol as dropped_symbol
use Rattle.fits_c.proofs.outcome.Outcome.TheLaws as outcome_laws
use Rattle.fits_c.specs.contracts.outcome.Outcome as kept
use Rattle.fits_c.specs.contracts.outcome_handle.OutcomeHandle as handle
use Rattle.fits_c.specs.contracts.outcome_handle.OutcomeHandle.of.{ended, clauses}
use Rattle.fits_c.specs.contracts.outcome_handle.OutcomeHandle.of.Key.{name as #self}
use Rattle.fits_c.proofs.outcome_handle.OutcomeHandle.of.Statement.{statement}
use Rattle.fits_c.proofs.outcome_handle.OutcomeHandle.of.Code as code

pub of_spec : {M : Type 1} → statement M
unfolding Rattle.fits_c.proofs.Destruct++none.drop.Code.code
of_spec {M} 𝓤 𝓛 𝓜 𝓡 wired =
    let H = 𝓛.H in let 𝓣 = tables 𝓤 H 𝓜 𝓡 𝓡.env in let c = clauses 𝓛 𝓜.mem 𝓡.returns in let fn = code.function in
    let τ : Ty = bare (layout kept.the_row) in let α : Ty = bare (layout heap.the_row) in
    let T : RattleType = arg τ no kept.the_row in let A : RattleType = arg α no heap.the_row in
    let L = arg_laws τ no kept.the_row outcome_laws.the_row_laws refl in let LA = arg_laws α no heap.the_row heap_laws.the_row_laws refl in
    let dd = impl ("fits_c::Destruct++none::drop" ∷ []) (tcons α tnil) dnil in let dx = impl ("fits_c::fits_c++outcome++Outcome+Destruct::drop" ∷ []) tnil dnil in
    let E : box.Bx = record { row = T; laws = L; al = record { row = A; laws = LA; g = ghosts; d = dict; drops = dd } } in
    let P : RattleType = boxed.the_row kept.the_row heap.the_row ghosts in
    let hs : Stays ended.signature.params ended.kept = (stay_dropped (plain (λ _. P)) yes, tt) in
    proved_at 𝓛 ended hs c 𝓜 𝓡 (Goes-blank 𝓛 0 (plain (λ _. P)) yes (λ κs x f. tt), tt) #self fn (code.unfolded 𝓤 H 𝓜 𝓡 wired) (λ z are.
    let v = z.0.3.0 in let a = v.alloc in let Post : Val → SProp 𝓤 = (walk_of 𝓛 ended hs c).post z in let Run : List Val → SProp 𝓤 = λ ws. WpFn 𝓤 H 𝓣.C 𝓣.Λ fn ws Post in
    qed 𝓛 ((‵ ftrue ⊛ ‵ (owns (types_at ended.signature.params z.0.0) z.0.3 z.0.4)) ∷ raw (emp 𝓤) ∷ []) ∵ move ! (1 ∷ []) $ drop ! $ split ! $ drop ! $ fsplit ! $
    box_out E ! v z.0.4.0 (λ b o h e ws fits. move ! (2 ∷ []) $ peeks ! heap.the_row (Is heap.the_row) (shows 𝓛 heap.the_row) a (h ∷ []) (λ is. move ! (1 ∷ 2 ∷ []) $ box_in E ! v b o v.value e refl $
    let w : Val = box.word E h b o in let eh : h ≡ heap_val = ap only (heap_Tells a (h ∷ []) is) in
    let Good : Val → Type 0 = λ s. holds (has_ty (layout P) s) × WT s in let good : Good w = subst Good (ap (λ (x : Val). box.word E x b o) (sym eh)) (tt, (tt, (((tt, tt), tt), tt))) in
    let k = triple_of 𝓛 (callee.signature T A ghosts dict dd dx) (callee.spec T A ghosts dict dd dx 𝓛 𝓜.mem 𝓡.returns) in let κs : Lft × (Lft × Unit {0}) = ([], ([], tt)) in
    let y : k.Ghost = ((κs, (full_share, (full_share, tt)), tt, (v, tt), (w ∷ [], tt)), tt) in
    -- how the value that the box holds is dropped, which `into_raw` asks of its type
    let world : World = record { M = M; 𝓤 = 𝓤; 𝓛 = 𝓛; 𝓜 = 𝓜; 𝓡 = 𝓡 } in let last = Kinds.ended_of 0 dropped.ps dropped.r in let dropping = method dx 0 (Param.layouts [] tt) in
    let wire = code.calls-fits_c::fits_c++outcome++Outcome+Destruct::drop 𝓡.env wired in
    let ps : List (ParamKind 1) = p_owned (param 0 T) refl no (Mute-seen (λ x. tt)) (λ M 𝓤 𝓛. (param_laws 0 T L).lawful 𝓛) ∷ [] in
    let drops = Glue.glue_by T L world dx 𝓡.env (λ κs a. Lasts last tt a) (λ κs a. lasts last tt a)
    (λ κs a x ws. Walked.Fit last (Kinds.stays dropped.ps) tt a ws × dropped_reads.Learnt tt a x (Clauses.at_exit last tt a ws))
    (λ κs a. Carry.AllWithin 1 (κs.0, tt) (T.lives, tt) × Unit {0}) 0 tt (λ κs a h. ((h, tt), tt))
    (Impl.via_longer 𝓛 (running.Over 𝓛 𝓜 𝓡 𝓡.env) 1 ps Kinds.r_unit (λ κs a. Lasts last tt a) (λ κs a. lasts last tt a)
    (λ κs a x ws. Walked.Fit last (Kinds.stays dropped.ps) tt a ws × dropped_reads.Learnt tt a x (Clauses.at_exit last tt a ws))
    (λ κs a. Carry.AllWithin 1 (κs.0, tt) (T.lives, tt) × Unit {0}) dropping 0 tt (λ κs. tt) (λ κs a. dropped_reads.Asked tt a) (λ κs a p. (tt, tt))
    (λ κs bd wi a vss qs. Impl.method_Known 0 dropped.ps dropped.r dropped_reads.requires dropped_reads.ensures dropped_reads.Asked dropped_reads.Learnt dropped_reads.known world dropped_symbol.name dropping
    (dropped_symbol.as_method 𝓡.env wire dropping refl) (dropped_met.met 𝓤 𝓛 𝓜 𝓡 wire) ((tt, qs, tt, a, vss), tt))) in
    let toks = ‵ (flft [] full_share) ⊛ ‵ (flft [] full_share) ⊛ ‵ ftrue in
    -- what `into_raw` asks for
    fjoin ! $ use0 𝓛 (raw (emp 𝓤)) (id⊢ 𝓤 (emp 𝓤)) $ use0 𝓛 (raw (fact 𝓤 ([] ⊑ A.lives))) (fact_i 𝓤 ([] ⊑ A.lives) (emp 𝓤) (heap_laws.the_within [])) $ join ! $
    use0 𝓛 (raw (fact 𝓤 ([] ⊑ T.lives))) (fact_i 𝓤 ([] ⊑ T.lives) (emp 𝓤) (outcome_laws.the_within [])) $ join ! $ move ! (1 ∷ 0 ∷ []) $
    nothing ! $ use0 𝓛 (‵ (flft [] full_share)) (𝓛.lfts.lft-nil full_share) $ join ! $ use0 𝓛 (‵ (flft [] full_share)) (𝓛.lfts.lft-nil full_share) $ join ! $ join ! $ join ! $ use1 𝓛 (raw (k.pre y)) (id⊢ 𝓤 _) $
    suffices ! (Run (w ∷ [])) (subst (λ (us : List Val). ent 𝓤 (Run (w ∷ [])) (Run us)) (sym (λ i. ws i ++ [])) (id⊢ 𝓤 (Run (w ∷ [])))) $
    enter ! 𝓣.C 𝓣.Λ fn (w ∷ []) Post $ alloc_all ! (λ l. pass_all ! refl (good, tt) $ sets ! (of_opd ! (get ! refl)) refl good $
    calls_at ! (framed 𝓤 H 𝓜 𝓣) k (met 𝓤 𝓛 𝓜 𝓡 (code.calls-std_alloc::boxed::Box::into_raw 𝓡.env wired) T A L LA ghosts dict dd dx
    (passed 𝓡.env (code.calls-std_heap::GlobalAllocator::allocate 𝓡.env wired) (code.calls-std_heap::GlobalAllocator::deallocate 𝓡.env wired) (code.calls-std_heap::GlobalAllocator::grow 𝓡.env wired) (code.calls-std_heap::GlobalAllocator::shrink 𝓡.env wired) M 𝓤 𝓛 𝓜 𝓡)
    (glues "fits_c::Destruct++none::drop" 𝓡.env (code.calls-fits_c::Destruct++none::drop 𝓡.env wired) A LA M 𝓤 𝓛 𝓜 𝓡)
    drops) y (and_then ! (get ! refl) (no_more !)) (λ u.
    use1 𝓛 (later (some (λ (r : Ptr). (toks ⊛ ‵ (RawPtr.own_val r (u ∷ []))) ⊛ some (λ (ls : Lasts (callee.ended T A ghosts dict dd dx) κs y.0.3). ‵ (lasts (callee.ended T A ghosts dict dd dx) κs y.0.3 ls) ⊛ ‵ (box_owns (ghosts.dealloc_token a) T r v.value))))) (id⊢ 𝓤 (k.post y u)) $
    await ! tt $ pick ! (λ r. split ! $ move ! (1 ∷ []) $ pick ! (λ _. split ! $ drop !
    $ in_a_block ! r (λ p. box_owns (ghosts.dealloc_token a) T p v.value) (fst∗ 𝓤 (never 𝓤) (sem 𝓛 (ghosts.dealloc_token a (bare (layout T)) null_ptr))) (λ b' o' e'. move ! (1 ∷ []) $ split ! $ move ! (1 ∷ []) $ feq_l ! (λ eu.
    let made : Val = vstruct (vcons (vptr b' o') vnil) in
    lands_as ! (ap only eu ∙ ap ptr_val e') refl (tt, tt) $
    -- the handle has the address, and what the box owned
    sets ! (of_opd ! (get ! refl)) refl (tt, tt) $ sets ! (agg ! (and_then ! (get ! refl) (no_more !))) refl (tt, (tt, tt)) $ move ! (1 ∷ []) $
    nothing ! $ feq_i ! (List Val) (vptr b' o' ∷ []) (vptr b' o' ∷ []) refl $ fjoin ! $ feq_i ! (List Val) (made ∷ []) (made ∷ []) refl $ fjoin ! $
    fpack ! (Valss (RawPtr ∷ [])) (within (shape handle.the_type) (block_ptr b' o', tt) (made ∷ [])) (vptr b' o' ∷ [], tt) $ fjoin ! $
    returns ! (look_at ! 0 refl) $ free_all ! refl $
    use0 𝓛 (raw (fact 𝓤 (Some v.value ≡ Some v.value))) (fact_i 𝓤 (Some v.value ≡ Some v.value) (emp 𝓤) refl) $ nothing ! $ nothing ! $ fjoin ! $ nothing ! $
    keep ! (0 ∷ 1 ∷ 3 ∷ 2 ∷ []) $ by ! (leaves 𝓛 ended hs c z made (record { at = block_ptr b' o'; alloc = a; outcome = Some v.value }) (tt, tt) (tt, tt)))))))))))
