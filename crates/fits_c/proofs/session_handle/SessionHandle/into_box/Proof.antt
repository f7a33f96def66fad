-- `into_box` makes the box again of the address that C gives back: a walk of its MIR, by hand.
use Rattle.std.proofs.Common.{◌≡◌, List, [], ◌∷◌, ◌++◌, IsSome, Option, None, Some, refl, sym, ap, subst, ◌∙◌}
use mir.Syntax.{Ty, impl, tcons, tnil, dnil}
use mir.Raw.{raw as bare}
use lib.Dec.{T as holds}
use mir.Val.{Val, vptr, vstruct, vcons, vnil, of_list, has_ty, WT}
use base.Fraction.{full_share}
use base.Logic.{SProp, ent, id⊢, emp, never, fst∗}
use base.Fml.{Lft, ftrue, flft}
use prog.Wp.{WpFn}
use types.Kit.{‵, raw, ◌⊛◌, some, later, at_ret, ◌$◌, ◌∵◌, !, qed, by, move, keep, drop, split, split3, join, fsplit, fjoin, fpick, pick, suffices, use0, use1, await, rewrite, feq_i, feq_l}
use types.Logic.{sem}
use types.Run.{stop, fld, of_opd, no_more, and_then, first, blocks, exec, returns, enter}
use types.ByLocal.{alloc_all, pass_all, free_all, look_at, get, get_in, sets, lands_last, env}
use types.Part.{sub, whole}
use contract.Monad.{fact, fact_i}
use contract.BorrowLft.{◌⊑◌}
use contract.Running.{tables}
use denote.Exit.{yes, no}
use denote.RattleType.{RattleType, owns}
use denote.Signature.{types_at, plain}
use denote.Laws.{Is, shows}
use denote.RawPtr.{Ptr, block_ptr, null_ptr, ptr_val, in_a_block}
use denote.Steps.{nothing, only, heard, peeks}
use denote.Param.{arg, layout}
use denote.Param.Laws.{arg_laws}
use denote.Param.NoDrop.{glues}
use denote.Triple.Clauses.{Lasts, lasts}
use denote.Triple.Spec.{triple_of}
use denote.Triple.Call.{calls_at_last}
use denote.Triple.Walked.{Stays, stay_dropped, walk_of, Goes-dropped}
use Rattle.std.proofs.alloc.Calls.{Goes-blank}
use Rattle.std.proofs.alloc.Shapes.{after}
use denote.Triple.Table.{framed}
use Rattle.std.proofs.raw_atomic.Walks.{proved_at, leaves}
use Rattle.std_alloc.proofs.BoxSteps.Form as box
use Rattle.std_alloc.proofs.BoxSteps.Steps.{box_out, box_in}
use Rattle.std_alloc.specs.Box.Ownership.{box_owns}
use Rattle.std_alloc.specs.contracts.boxed.Box as boxed
use Rattle.std_alloc.specs.contracts.boxed.Box.from_raw as callee
use Rattle.std_alloc.proofs.boxed.Box.from_raw.Met.{met}
use Rattle.std_heap.proofs.Handle.{heap_val, heap_Tells}
use Rattle.std_heap.proofs.Global.TheLaws as heap_laws
use Rattle.std_heap.proofs.GlobalAllocator.TheImpl.Met.{passed}
use Rattle.std_heap.specs.contracts.Global as heap
use Rattle.std_heap.specs.contracts.GlobalAllocator.TheImpl.{ghosts, dict}
use Rattle.fits_c.proofs.Destruct++none.drop.Code
use Rattle.fits_c.proofs.live.Live.TheLaws as live_laws
use Rattle.fits_c.specs.contracts.live.Live as live
use Rattle.fits_c.specs.contracts.session_handle.SessionHandle as handle
use Rattle.fits_c.specs.contracts.session_handle.SessionHandle.into_box.{ended, clauses}
use Rattle.fits_c.specs.contracts.session_handle.SessionHandle.into_box.Key.{name as #self}
use Rattle.fits_c.proofs.session_handle.SessionHandle.into_box.Statement.{statement}
use Rattle.fits_c.proofs.session_handle.SessionHandle.into_box.Code as code
use Rattle.fits_c.specs.Owned.{owned_if}
use Rattle.fits_c.specs.declared.live.Live.{Live}

-- what is there
some_in : (o : Option Live) → IsSome o → (x : Live) × (o ≡ Some x)
some_in None has = absurd (cc)
some_in (Some x) has = (x, refl)

pub into_box_spec : {M : Type 1} → statement M
unfolding Rattle.fits_c.proofs.Destruct++none.drop.Code.code
into_box_spec {M} 𝓤 𝓛 𝓜 𝓡 wired =
    let H = 𝓛.H in let 𝓣 = tables 𝓤 H 𝓜 𝓡 𝓡.env in let c = clauses 𝓛 𝓜.mem 𝓡.returns in let fn = code.function in
    let τ : Ty = bare (layout live.the_row) in let α : Ty = bare (layout heap.the_row) in
    let T : RattleType = arg τ no live.the_row in let A : RattleType = arg α no heap.the_row in
    let L = arg_laws τ no live.the_row live_laws.the_row_laws refl in let LA = arg_laws α no heap.the_row heap_laws.the_row_laws refl in
    let dd = impl ("fits_c::Destruct++none::drop" ∷ []) (tcons α tnil) dnil in
    let E : box.Bx = record { row = T; laws = L; al = record { row = A; laws = LA; g = ghosts; d = dict; drops = dd } } in
    let hs : Stays ended.signature.params ended.kept = (stay_dropped (plain (λ _. handle.the_row)) yes, (stay_dropped (plain (λ _. heap.the_row)) yes, tt)) in
    proved_at 𝓛 ended hs c 𝓜 𝓡 (Goes-blank 𝓛 0 (plain (λ _. handle.the_row)) yes (λ κs x f. tt), (Goes-dropped 𝓛 0 (plain (λ _. heap.the_row)) yes (λ κs x f. refl), tt)) #self fn (code.unfolded 𝓤 H 𝓜 𝓡 wired) (λ z are.
    let v = z.0.3.0 in let a = z.0.3.1.0 in let Post : Val → SProp 𝓤 = (walk_of 𝓛 ended hs c).post z in let Run : List Val → SProp 𝓤 = λ ws. WpFn 𝓤 H 𝓣.C 𝓣.Λ fn ws Post in
    -- what C gives back, apart: the box's value with the right to free its block, and the allocator, which is one machine value
    qed 𝓛 ((‵ ftrue ⊛ ‵ (owns (types_at ended.signature.params z.0.0) z.0.3 z.0.4)) ∷ raw (fact 𝓤 (IsSome v.live)) ∷ []) ∵ move ! (1 ∷ []) $ heard ! (IsSome v.live) (λ has. let it = some_in v.live has in split ! $ drop ! $ fsplit ! $ fsplit ! $
    fpick ! (λ vss. fsplit ! $ feq_l ! (λ ev. fsplit ! $ feq_l ! (λ ep. drop !
    $ rewrite ! 0 (λ (o : Option Live). ‵ (owned_if v.alloc v.at o)) it.1 refl $ in_a_block ! v.at (λ p. box_owns (ghosts.dealloc_token v.alloc) live.the_row p it.0) (fst∗ 𝓤 (never 𝓤) (sem 𝓛 (ghosts.dealloc_token v.alloc (bare (layout live.the_row)) null_ptr))) (λ b o e.
    move ! (1 ∷ []) $ fsplit ! $ peeks ! heap.the_row (Is heap.the_row) (shows 𝓛 heap.the_row) a z.0.4.1.0 (λ is. rewrite ! 0 (λ (us : List Val). ‵ (heap.the_row.own_val a us)) (heap_Tells a z.0.4.1.0 is) refl $
    let w : Val = vstruct (vcons (vptr b o) vnil) in let κs : Lft × (Lft × Unit {0}) = ([], ([], tt)) in
    let ws : z.0.4.0 ≡ w ∷ [] = subst (λ (p : Ptr). z.0.4.0 ≡ vstruct (of_list (ptr_val p ∷ [])) ∷ []) e (subst (λ (ps : List Val). z.0.4.0 ≡ vstruct (of_list (ps ++ [])) ∷ []) ep ev) in
    let k = triple_of 𝓛 (callee.signature T A ghosts dict dd) (callee.spec T A ghosts dict dd 𝓛 𝓜.mem 𝓡.returns) in
    let y : k.Ghost = ((κs, (full_share, (full_share, tt)), tt, (a, (block_ptr b o, tt)), (heap_val ∷ [], (vptr b o ∷ [], tt))), it.0) in
    let toks = ‵ (flft [] full_share) ⊛ ‵ (flft [] full_share) ⊛ ‵ ftrue in let B : RattleType = box.B E in
    -- what `from_raw` asks for
    move ! (2 ∷ 0 ∷ []) $ use0 𝓛 (raw (fact 𝓤 ([] ⊑ A.lives))) (fact_i 𝓤 ([] ⊑ A.lives) (emp 𝓤) (heap_laws.the_within [])) $ join ! $
    use0 𝓛 (raw (fact 𝓤 ([] ⊑ T.lives))) (fact_i 𝓤 ([] ⊑ T.lives) (emp 𝓤) (live_laws.the_within [])) $ join ! $
    move ! (2 ∷ []) $ feq_i ! (List Val) (vptr b o ∷ []) (vptr b o ∷ []) refl $ fjoin ! $ move ! (2 ∷ 0 ∷ []) $ fjoin ! $
    nothing ! $ use0 𝓛 (‵ (flft [] full_share)) (𝓛.lfts.lft-nil full_share) $ join ! $ use0 𝓛 (‵ (flft [] full_share)) (𝓛.lfts.lft-nil full_share) $ join ! $ join ! $ join ! $ use1 𝓛 (raw (k.pre y)) (id⊢ 𝓤 _) $
    suffices ! (Run (w ∷ heap_val ∷ [])) (subst (λ (us : List Val). ent 𝓤 (Run (w ∷ heap_val ∷ [])) (Run us)) (sym (λ i. ws i ++ (heap_Tells a z.0.4.1.0 is i ++ []))) (id⊢ 𝓤 (Run (w ∷ heap_val ∷ [])))) $
    enter ! 𝓣.C 𝓣.Λ fn (w ∷ heap_val ∷ []) Post $ alloc_all ! (λ l. pass_all ! refl ((tt, (tt, tt)), ((tt, ((tt, tt), tt)), tt)) $ let En = env fn.locals l in
    -- let Held { at } = self;
    sets ! (of_opd ! (get_in ! (fld ! refl (stop !)) (sub ! 0 refl (whole !)))) refl (tt, tt) $
    -- Box::from_raw(alloc, at as *mut Live)
    first ! $ blocks ! $ sets ! (of_opd ! (get ! refl)) refl (tt, tt) $
    calls_at_last ! (framed 𝓤 H 𝓜 𝓣) k (met 𝓤 𝓛 𝓜 𝓡 (code.calls-std_alloc::boxed::Box::from_raw 𝓡.env wired) T A L LA ghosts dict dd
    (passed 𝓡.env (code.calls-std_heap::GlobalAllocator::allocate 𝓡.env wired) (code.calls-std_heap::GlobalAllocator::deallocate 𝓡.env wired) (code.calls-std_heap::GlobalAllocator::grow 𝓡.env wired) (code.calls-std_heap::GlobalAllocator::shrink 𝓡.env wired) M 𝓤 𝓛 𝓜 𝓡)
    (glues "fits_c::Destruct++none::drop" 𝓡.env (code.calls-fits_c::Destruct++none::drop 𝓡.env wired) A LA M 𝓤 𝓛 𝓜 𝓡)) y (and_then ! (get ! refl) (and_then ! (get ! refl) (no_more !))) (λ u.
    use1 𝓛 (later (some (λ (r : B.Denot). (toks ⊛ ‵ (B.own_val r (u ∷ []))) ⊛ some (λ (ls : Lasts (callee.ended T A ghosts dict dd) κs y.0.3). ‵ (lasts (callee.ended T A ghosts dict dd) κs y.0.3 ls) ⊛ (raw (fact 𝓤 (r.value ≡ it.0)) ⊛ raw (fact 𝓤 (r.alloc ≡ a))))))) (id⊢ 𝓤 (k.post y u)) $
    await ! tt $ pick ! (λ r. split ! $ move ! (1 ∷ []) $ pick ! (λ _. split3 ! $ drop ! $ heard ! (r.value ≡ it.0) (λ same. move ! (1 ∷ []) $ split ! $ move ! (1 ∷ []) $
    box_out E ! r (u ∷ []) (λ b' o' h' e' us fits'. move ! (2 ∷ []) $ peeks ! heap.the_row (Is heap.the_row) (shows 𝓛 heap.the_row) r.alloc (h' ∷ []) (λ is'. move ! (1 ∷ 2 ∷ []) $
    box_in E ! r b' o' r.value e' refl $ rewrite ! 0 (λ (xs : List Val). ‵ (B.own_val r xs)) (sym us) refl $
    let eu : u ≡ box.word E heap_val b' o' = ap only us ∙ ap (λ (h : Val). box.word E h b' o') (ap only (heap_Tells r.alloc (h' ∷ []) is')) in
    let Good : Val → Type 0 = λ s. holds (has_ty (layout (boxed.the_row live.the_row heap.the_row ghosts)) s) × WT s in
    let good : Good u = subst Good (sym eu) (tt, (tt, (((tt, tt), tt), tt))) in
    lands_last ! refl good $ exec ! 𝓣.C 𝓣.Λ En (after 2 fn.body) (at_ret En Post) $
    sets ! (of_opd ! (get ! refl)) refl good $ returns ! (look_at ! 0 refl) $ free_all ! refl $
    use0 𝓛 (raw (fact 𝓤 (v.live ≡ Some r.value))) (fact_i 𝓤 (v.live ≡ Some r.value) (emp 𝓤) (it.1 ∙ ap Some (sym same))) $ nothing ! $ nothing ! $ fjoin ! $ nothing ! $ fjoin ! $ nothing ! $ keep ! (0 ∷ 1 ∷ 3 ∷ 2 ∷ []) $ by ! (leaves 𝓛 ended hs c z u r (tt, (tt, tt)) (tt, (tt, tt)))))))))))))))))
