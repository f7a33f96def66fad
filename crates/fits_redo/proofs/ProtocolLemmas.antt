-- What a crash leaves of a plan that is made.
use Rattle.std.proofs.Common.{◌≡◌, ◌⊎◌, inl, inr, ℕ, ◌+◌, ◌<◌, ◌==◌, true, List, [], ◌∷◌, ◌++◌, length, get_or, take, drop, None, sym, ◌∙◌, ap, subst, take-append-drop}
use Rattle.std.proofs.lemmas.List.{drop_more, take_more}
use Rattle.fits_redo.specs.Blocks.{with_block, has_block}
use Rattle.fits_redo.specs.Pair.{Files, Removes, Writes}
use Rattle.fits_redo.specs.Plan.{agrees, redone, fits}
use Rattle.fits_redo.specs.Protocol.{IsUnfinished, IsUnfinishedOrDone}
use Rattle.fits_redo.specs.declared.changed_block.ChangedBlock.{ChangedBlock}
use Rattle.fits_redo.proofs.MixLemmas.{both, and_both}
use Rattle.fits_redo.proofs.PlanLemmas.{AsGood, one_fits, torn, redone_again, redone-append, fits_front, length-redone, has_as_long}

-- a plan, cut at one of its blocks
pub cut : (blocks : List ChangedBlock) (i : ℕ) (e : ChangedBlock) → i < length blocks → take i blocks ++ get_or blocks i e ∷ drop (i + 1) blocks ≡ blocks
cut blocks i e low = ap (λ (l : List ChangedBlock). take i blocks ++ l) (sym (drop_more blocks i e low)) ∙ take-append-drop i blocks

-- a file over which the plan is as good agrees with it
good_agrees : (len : ℕ) (blocks : List ChangedBlock) (old new : List ℕ) → agrees len blocks old ≡ true → AsGood 0 blocks old new → agrees len blocks new ≡ true
good_agrees len blocks old new h good =
    let parts = both (len == length old) (fits 0 blocks old) h in
    and_both (len == length new) (fits 0 blocks new) (ap (λ n. len == n) good.long ∙ parts.0) good.fits

-- a plan that agrees with a file fits it
pub fits_of : (len : ℕ) (blocks : List ChangedBlock) (file : List ℕ) → agrees len blocks file ≡ true → fits 0 blocks file ≡ true
fits_of len blocks file h = (both (len == length file) (fits 0 blocks file) h).1

-- what stands beside its redo file is finished to the new file
pub good_due : (bytes : List ℕ) (len : ℕ) (blocks : List ChangedBlock) (new : List ℕ) (d c : Files) → IsUnfinished bytes len blocks new d → c.redo ≡ d.redo → AsGood 0 blocks d.file c.file → IsUnfinished bytes len blocks new c
good_due bytes len blocks new d c due same good = record {
  redo = same ∙ due.redo;
  agrees = good_agrees len blocks d.file c.file due.agrees good;
  gives = good.gives ∙ due.gives;
}

-- a block that is written in part leaves the plan due
pub writes_due : (bytes : List ℕ) (len : ℕ) (blocks : List ChangedBlock) (new : List ℕ) (i : ℕ) (e : ChangedBlock) (d c : Files) → i < length blocks → IsUnfinished bytes len blocks new d → Writes (get_or blocks i e).index (get_or blocks i e).new d c
    → IsUnfinished bytes len blocks new c
writes_due bytes len blocks new i e d c low due wrote =
    let x = get_or blocks i e in
    let whole = cut blocks i e low in
    let fits_cut : fits 0 (take i blocks ++ x ∷ drop (i + 1) blocks) d.file ≡ true = subst (λ l. fits 0 l d.file ≡ true) (sym whole) (fits_of len blocks d.file due.agrees) in
    let one = one_fits 0 (take i blocks) x (drop (i + 1) blocks) d.file fits_cut in
    let mix = wrote.file one.has in
    let good = torn 0 (take i blocks) x (drop (i + 1) blocks) mix.0 d.file fits_cut mix.1 in
    good_due bytes len blocks new d c due wrote.redo (subst (λ l. AsGood 0 l d.file c.file) whole (subst (λ f. AsGood 0 (take i blocks ++ x ∷ drop (i + 1) blocks) d.file f) (sym mix.2) good))

-- the next block can be written where those before it were
pub has_next : (blocks : List ChangedBlock) (i : ℕ) (e : ChangedBlock) (file : List ℕ) → i < length blocks → fits 0 blocks file ≡ true → has_block (get_or blocks i e).index (redone (take i blocks) file) ≡ true
has_next blocks i e file low h =
    let x = get_or blocks i e in
    let fits_cut : fits 0 (take i blocks ++ x ∷ drop (i + 1) blocks) file ≡ true = subst (λ l. fits 0 l file ≡ true) (sym (cut blocks i e low)) h in
    let one = one_fits 0 (take i blocks) x (drop (i + 1) blocks) file fits_cut in
    has_as_long x.index file (redone (take i blocks) file) (length-redone 0 (take i blocks) file (fits_front 0 (take i blocks) (x ∷ drop (i + 1) blocks) file fits_cut)) one.has

-- and makes them one more
pub redone_next : (blocks : List ChangedBlock) (i : ℕ) (e : ChangedBlock) (file : List ℕ) → i < length blocks → with_block (get_or blocks i e).index (get_or blocks i e).new (redone (take i blocks) file) ≡ redone (take (i + 1) blocks) file
redone_next blocks i e file low =
    sym (redone-append (take i blocks) (get_or blocks i e ∷ []) file) ∙ ap (λ l. redone l file) (sym (take_more blocks i e low))

-- once all are written the plan is still due
pub done_due : (bytes : List ℕ) (len : ℕ) (blocks : List ChangedBlock) (new : List ℕ) (f c : Files) → IsUnfinished bytes len blocks new f → c.redo ≡ f.redo → c.file ≡ redone blocks f.file → IsUnfinished bytes len blocks new c
done_due bytes len blocks new f c due same is =
    good_due bytes len blocks new f c due same (subst (λ l. AsGood 0 blocks f.file l) (sym is) (redone_again 0 [] blocks f.file (fits_of len blocks f.file due.agrees)))

-- what is due when the redo file is being removed
pub removes_due : (bytes : List ℕ) (len : ℕ) (blocks : List ChangedBlock) (new : List ℕ) (f g c : Files) → IsUnfinished bytes len blocks new f → g.redo ≡ f.redo → g.file ≡ redone blocks f.file → Removes g c → IsUnfinishedOrDone bytes len blocks new c
removes_due bytes len blocks new f g c due same is removed = by removed.redo
  where
    by : (c.redo ≡ g.redo) ⊎ (c.redo ≡ None) → IsUnfinishedOrDone bytes len blocks new c
    by (inl stays) = inl (done_due bytes len blocks new f c due (stays ∙ same) (removed.file ∙ is))
    by (inr gone) = inr (λ i. record { file = (removed.file ∙ is ∙ due.gives) i; redo = gone i })
