-- `none` makes a handle of no box: a walk of its MIR, by hand.
use Rattle.std.proofs.Common.{◌≡◌, List, [], ◌∷◌, Option, None, refl, lit<}
use mir.Val.{Val, vstruct, vcons, vnil}
use base.Logic.{SProp, emp}
use base.Fml.{ftrue}
use types.Kit.{‵, raw, ◌⊛◌, ◌$◌, ◌∵◌, !, qed, by, keep, drop, fjoin, fpack, use0, feq_i}
use types.Run.{lit, no_more, and_then, returns, enter}
use types.ByLocal.{alloc_all, pass_all, free_all, look_at, sets}
use types.Part.{agg}
use contract.Monad.{fact, fact_i}
use contract.Running.{tables}
use denote.Builtin.{RawPtr}
use denote.RattleType.{Valss, owns}
use denote.RawPtr.{null_ptr, ptr_val}
use denote.Signature.{types_at}
use denote.Steps.{nothing}
use denote.Struct.Struct.{within}
use denote.Struct.Owning.{shape}
use denote.Triple.Walked.{Stays, walk_of}
use Rattle.std.proofs.raw_atomic.Walks.{proved_at, leaves}
use Rattle.std_heap.proofs.Handle.{handle as heap}
use Rattle.fits_c.specs.contracts.session_handle.SessionHandle as handle
use Rattle.fits_c.specs.contracts.session_handle.SessionHandle.none.{ended, clauses}
use Rattle.fits_c.specs.contracts.session_handle.SessionHandle.none.Key.{name as #self}
use Rattle.fits_c.proofs.session_handle.SessionHandle.none.Statement.{statement}
use Rattle.fits_c.proofs.session_handle.SessionHandle.none.Code as code
use Rattle.fits_c.specs.declared.live.Live.{Live}

pub none_spec : {M : Type 1} → statement M
none_spec {M} 𝓤 𝓛 𝓜 𝓡 wired =
    let H = 𝓛.H in let 𝓣 = tables 𝓤 H 𝓜 𝓡 𝓡.env in let c = clauses 𝓛 𝓜.mem 𝓡.returns in let fn = code.function in
    let hs : Stays ended.signature.params ended.kept = tt in
    proved_at 𝓛 ended hs c 𝓜 𝓡 tt #self fn (code.unfolded 𝓤 H 𝓜 𝓡 wired) (λ z are.
    let Post : Val → SProp 𝓤 = (walk_of 𝓛 ended hs c).post z in
    let nowhere : Option Live = None in let w : Val = ptr_val null_ptr in let made : Val = vstruct (vcons w vnil) in
    qed 𝓛 ((‵ ftrue ⊛ ‵ (owns (types_at ended.signature.params z.0.0) z.0.3 z.0.4)) ∷ raw (emp 𝓤) ∷ []) ∵ drop ! $ drop ! $
    enter ! 𝓣.C 𝓣.Λ fn [] Post $ alloc_all ! (λ l. pass_all ! refl tt $
    sets ! (agg ! (and_then ! (lit ! tt) (no_more !))) refl (tt, (record { fits = lit< tt }, tt)) $
    nothing ! $ nothing ! $ feq_i ! (List Val) (w ∷ []) (w ∷ []) refl $ fjoin ! $ feq_i ! (List Val) (made ∷ []) (made ∷ []) refl $ fjoin ! $
    fpack ! (Valss (RawPtr ∷ [])) (within (shape handle.the_type) (null_ptr, tt) (made ∷ [])) (w ∷ [], tt) $ fjoin ! $
    returns ! (look_at ! 0 refl) $ free_all ! refl $
    use0 𝓛 (raw (fact 𝓤 (nowhere ≡ None))) (fact_i 𝓤 (nowhere ≡ None) (emp 𝓤) refl) $ nothing ! $ nothing ! $
    keep ! (0 ∷ 1 ∷ 3 ∷ 2 ∷ []) $ by ! (leaves 𝓛 ended hs c z made (record { at = null_ptr; alloc = heap; live = None }) tt tt)))
