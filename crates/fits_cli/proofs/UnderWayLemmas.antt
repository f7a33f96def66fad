-- What the reads of a file leave of it while a script is answered.
use Rattle.std.proofs.Common.{◌≡◌, ℕ, zero, suc, add-one, List, [], ◌∷◌, All, Some, ap, length, true, false, refl, sym, subst, ◌∙◌, inl, inr}
use Rattle.std.specs.Prelude.{Bool, ◌&&◌, not, Result, Ok, Err, OnOk}
use Rattle.std.specs.List.{slice_get}
use Rattle.fits_stream.specs.Agree.{IsOf}
use Rattle.fits_stream.specs.Stored.{ReadLogState}
use Rattle.fits_edit.specs.declared.edit.Edit.{Edit as SessionEdit}
use Rattle.fits_edit.specs.declared.edit.Edit.TheVariants.{Hdu, NewImage, RemoveHdu}
use Rattle.fits_hdu.specs.State.{HduState, parts_of, IsSeen}
use Rattle.fits_hdu.specs.Work.{Loads}
use Rattle.fits_stream.specs.Stream.{SinkState, Prints}
use Rattle.fits_stream.proofs.StreamLemmas.{Prints-none}
use Rattle.fits_sum.specs.Words.{word_total}
use Rattle.fits_unit.specs.Again.{CopyFails, Follows, PrintsAs}
use Rattle.fits_unit.specs.declared.again.CopyFault.{CopyFault}
use Rattle.fits_unit.specs.declared.again.CopyFault.TheVariants.{Failed, Changed, Write}
use Rattle.fits_passing.specs.declared.look.Look.{Look}
use Rattle.fits_passing.specs.declared.look.Look.TheVariants.{All as LookAll, Headers as LookHeaders}
use Rattle.fits_script.specs.declared.line_reading.LineReading.{LineReading}
use Rattle.fits_session.specs.Away.{in_file, load_times, AllLie, FileHasTotal, IsTold, LieStill, LoadEach, LoadsAll, LoadsAlone, LoadsAt, LoadsFor}
use Rattle.fits_session.specs.Edit.{changed_at}
use Rattle.fits_passing.specs.File.{file_bytes}
use Rattle.fits_session.specs.Marked.{guarded, Marked}
use Rattle.fits_session.specs.Session.{absences_of, file_of, hdus_of, kept_of, marked_of, IsHeld, SessionState}
use Rattle.fits_session.proofs.HadLemmas.{all_held}
use Rattle.fits_session.proofs.ToldLemmas.{any_same}
use Rattle.fits_cli.specs.Answer.{Standing, line_answer, line_left}
use Rattle.fits_tell.specs.Faults.{fault_of_copy}
use Rattle.fits_cli.specs.Faults.{SaveFails}
use Rattle.fits_cli.specs.Frame.{HasTotalBy}
use Rattle.fits_cli.specs.Output.{saved_bytes}
use Rattle.fits_cli.specs.Running.{guarded_by, standing_over, AreLike, IsLike, IsLikeHdu, IsToldBy, Progress, RepliesLike, standing_at}
use Rattle.fits_tell.specs.declared.fault.Fault.{Fault}
use Rattle.fits_cli.specs.declared.terms.Terms.{Terms}

-- what is so anyhow is so of a result that is there
pub ok_anyhow : {X E P : Type 0} (result : Result X E) → P → OnOk result P
ok_anyhow (Ok x) p = p
ok_anyhow (Err e) p = tt

-- bytes that may have given the reads may have given the earlier ones
pub told_before : (whole : Bool) (told : List ℕ) (old new : ReadLogState) → Follows old new → IsToldBy whole told new → IsToldBy whole told old
told_before whole told old new follows by = λ away. follows told (by away)

-- and the data units lie in them that lay in each that the earlier ones may be of
pub told_hdus : (whole : Bool) (told : List ℕ) (old new : ReadLogState) (hdus : List HduState) → Follows old new → ((bytes : List ℕ) → IsOf bytes old → AllLie bytes hdus) → IsToldBy whole told new → IsTold whole told new hdus
told_hdus whole told old new hdus follows lie by = λ away. let is = by away in (is, lie told (follows told is))

-- they lie in each that the later reads may be of too
pub lie_on : (old new : ReadLogState) (hdus left : List HduState) → Follows old new → LieStill hdus left → ((bytes : List ℕ) → IsOf bytes old → AllLie bytes hdus) → (bytes : List ℕ) → IsOf bytes new → AllLie bytes left
lie_on old new hdus left follows stays lie bytes is = stays.lie bytes (lie bytes (follows bytes is))

-- where all are in memory, or told, they lie in a file
lie_by : (whole : Bool) (told : List ℕ) (log : ReadLogState) (hdus : List HduState) → (whole ≡ true → All IsHeld hdus) → IsTold whole told log hdus → AllLie told hdus
lie_by true told log hdus held all = all_held (in_file told) hdus (held refl)
lie_by false told log hdus held all = (all refl).1

-- so they do after what is wanted of them was read
pub lie_ready : (whole : Bool) (old new : ReadLogState) (hdus left : List HduState) → Follows old new → (whole ≡ true → All IsHeld left) → ((told : List ℕ) → IsTold whole told new hdus → IsTold whole told new left) → ((bytes : List ℕ) → IsOf bytes old → AllLie bytes hdus) → (bytes : List ℕ) → IsOf bytes new → AllLie bytes left
lie_ready whole old new hdus left follows held told lie bytes is = lie_by whole bytes new left held (told bytes (λ away. (is, lie bytes (follows bytes is))))

-- and for bytes that may have given the reads
pub lie_told : (whole : Bool) (told : List ℕ) (log : ReadLogState) (hdus : List HduState) → (whole ≡ true → All IsHeld hdus) → ((bytes : List ℕ) → IsOf bytes log → AllLie bytes hdus) → IsToldBy whole told log → AllLie told hdus
lie_told whole told log hdus held lie by = lie_by whole told log hdus held (λ away. let is = by away in (is, lie told is))

-- a log goes on from itself
pub follows_none : (log : ReadLogState) → Follows log log
follows_none log bytes is = is

-- and from what it went on from before
pub follows_more : (a b c : ReadLogState) → Follows a b → Follows b c → Follows a c
follows_more a b c p q bytes is = p bytes (q bytes is)

-- a file that isn't saved whole ends a run so
save_fails : (bytes : List ℕ) (old new : SinkState) (why : CopyFault) → CopyFails bytes old new why → SaveFails bytes old new (fault_of_copy why)
save_fails bytes old new Failed p = inr (refl, p)
save_fails bytes old new Changed p = absurd p
save_fails bytes old new Write p = inl (refl, p)

-- what isn't spared is the file
pub saved_whole : (terms : Terms) (standing : Standing) → (terms.spare && not standing.edited) ≡ false → saved_bytes terms standing ≡ file_bytes standing.marked.file
saved_whole terms standing is = rw is refl

-- so it is saved
pub saves_all : (terms : Terms) (standing : Standing) (spared : Bool) (old new : SinkState) → spared ≡ (terms.spare && not standing.edited) → spared ≡ false → Prints (file_bytes standing.marked.file) old new → Prints (saved_bytes terms standing) old new
saves_all terms standing spared old new is all p = subst (λ (t : List ℕ). Prints t old new) (sym (saved_whole terms standing (sym is ∙ all))) p

-- or isn't
pub saves_not : (terms : Terms) (standing : Standing) (spared : Bool) (old new : SinkState) (why : CopyFault) (fault : Fault) → spared ≡ (terms.spare && not standing.edited) → spared ≡ false → fault ≡ fault_of_copy why → CopyFails (file_bytes standing.marked.file) old new why → SaveFails (saved_bytes terms standing) old new fault
saves_not terms standing spared old new why fault is all so p =
    subst (λ (t : List ℕ). SaveFails t old new fault) (sym (saved_whole terms standing (sym is ∙ all)))
    (subst (SaveFails (file_bytes standing.marked.file) old new) (sym so) (save_fails (file_bytes standing.marked.file) old new why p))

-- it is as long as what is saved, whatever the reads gave, and where all was looked at has its total
total_by : (look : Look) (session : SessionState) → (look ≡ LookAll → All IsSeen session.hdus) → (bytes : List ℕ) → FileHasTotal session bytes → HasTotalBy look (file_bytes (file_of session)) bytes
total_by LookAll session seen bytes total = total (seen refl)
total_by LookHeaders session seen bytes total = tt

pub saves_like : (look : Look) (terms : Terms) (standing : Standing) (session : SessionState) (spared : Bool) (old new : SinkState) → standing.marked.file ≡ file_of session → (look ≡ LookAll → All IsSeen session.hdus) → spared ≡ (terms.spare && not standing.edited) → spared ≡ false
    → PrintsAs (FileHasTotal session) (length (file_bytes (file_of session))) old new → PrintsAs (HasTotalBy look (saved_bytes terms standing)) (length (saved_bytes terms standing)) old new
saves_like look terms standing session spared old new file seen is all p =
    let same : saved_bytes terms standing ≡ file_bytes (file_of session) = saved_whole terms standing (sym is ∙ all) ∙ ap file_bytes file in
    subst (λ (t : List ℕ). PrintsAs (HasTotalBy look t) (length t) old new) (sym same) (record { like = p.like; size = p.size; is = total_by look session seen p.like p.is; written = p.written })

-- nothing is, where it is spared
total_none : (look : Look) → HasTotalBy look [] []
total_none LookAll = refl
total_none LookHeaders = tt

pub saves_none : (look : Look) (terms : Terms) (standing : Standing) (spared : Bool) (sink : SinkState) → spared ≡ (terms.spare && not standing.edited) → spared ≡ true → PrintsAs (HasTotalBy look (saved_bytes terms standing)) (length (saved_bytes terms standing)) sink sink
saves_none look terms standing spared sink is all =
    let none : (terms.spare && not standing.edited) ≡ true = sym is ∙ all in
    rw none (record { like = []; size = refl; is = total_none look; written = Prints-none sink })

-- an HDU is like itself
like_hdu : (one : HduState) → IsLikeHdu one (parts_of one)
like_hdu one = record { header = refl; size = refl; total = λ seen. refl }

-- so are those of a file
like_hdus : (hdus : List HduState) → AreLike hdus (hdus_of hdus)
like_hdus [] = tt
like_hdus (one ∷ hdus) = (like_hdu one, like_hdus hdus)

-- and the file
pub like_none : (it : SessionState) → IsLike it (marked_of it)
like_none it = record { hdus = like_hdus it.hdus; tail = refl; kept = refl }

-- where tables are kept too
pub like_guarded : (tables : Bool) (one : SessionState) (other : Marked) → IsLike one other → IsLike one (guarded tables other)
like_guarded tables one other like = record { hdus = like.hdus; tail = like.tail; kept = like.kept }

-- an HDU whose data were loaded is like the one before
loaded_hdu : {times : ℕ} (old new : HduState) → Loads times old new → IsLikeHdu old (parts_of new)
loaded_hdu old new loads = record { header = ap (λ (s : HduState). s.header.header) loads.rest; size = loads.size; total = loads.total }

-- as one of those of a file
loaded_hdus : {times : ℕ} (i : ℕ) (now : HduState) (hdus : List HduState) → ((one : HduState) → slice_get hdus i ≡ Some one → Loads times one now) → AreLike hdus (hdus_of (changed_at i (λ one. now) hdus))
loaded_hdus i now [] loads = tt
loaded_hdus zero now (one ∷ hdus) loads = (loaded_hdu one now (loads one refl), like_hdus hdus)
loaded_hdus (suc i) now (one ∷ hdus) loads = (like_hdu one, loaded_hdus i now hdus loads)

-- their marks stay
loaded_kept : {times : ℕ} (i : ℕ) (now : HduState) (hdus : List HduState) → ((one : HduState) → slice_get hdus i ≡ Some one → Loads times one now) → kept_of (changed_at i (λ one. now) hdus) ≡ kept_of hdus
loaded_kept i now [] loads = refl
loaded_kept zero now (one ∷ hdus) loads = ap (λ k. k ∷ kept_of hdus) (ap (λ (s : HduState). s.kept) (loads one refl).rest)
loaded_kept (suc i) now (one ∷ hdus) loads = ap (λ ks. one.kept ∷ ks) (loaded_kept i now hdus loads)

-- so a file is like the one before, of which an HDU was loaded
loaded_alone : (times h : ℕ) (old new : SessionState) → LoadsAlone times h old new → IsLike old (marked_of new)
loaded_alone times zero old new alone = rw alone.is (like_none old)
loaded_alone times (suc i) old new alone =
    let loads : (one : HduState) → slice_get old.hdus i ≡ Some one → Loads times one alone.now = λ one there. alone.loads i one (sym (add-one i)) there in
    rw alone.is (record { hdus = loaded_hdus i alone.now old.hdus loads; tail = refl; kept = loaded_kept i alone.now old.hdus loads })

-- or none was
pub loaded_at : (times h : ℕ) (old new : SessionState) → LoadsAt times h old new → IsLike old (marked_of new)
loaded_at times h old new (inl same) = rw same (like_none old)
loaded_at times h old new (inr alone) = loaded_alone times h old new alone

-- the same for an edit
pub loaded_for : (edit : SessionEdit) (old new : SessionState) → LoadsFor edit old new → IsLike old (marked_of new)
loaded_for (Hdu h edit) old new (inl same) = rw same (like_none old)
loaded_for (Hdu h edit) old new (inr needed) = loaded_alone (load_times edit) h old new needed.1
loaded_for (NewImage at kind axes) old new same = rw same (like_none old)
loaded_for (RemoveHdu h) old new same = rw same (like_none old)

-- and for a report
each_like : (old new : List HduState) → LoadEach old new → AreLike old (hdus_of new)
each_like [] [] p = tt
each_like [] (now ∷ new) p = absurd p
each_like (one ∷ old) [] p = absurd p
each_like (one ∷ old) (now ∷ new) p = (loaded_hdu one now p.0, each_like old new p.1)

each_kept : (old new : List HduState) → LoadEach old new → kept_of new ≡ kept_of old
each_kept [] [] p = refl
each_kept [] (now ∷ new) p = absurd p
each_kept (one ∷ old) [] p = absurd p
each_kept (one ∷ old) (now ∷ new) p = ap (λ k. k ∷ kept_of new) (ap (λ (s : HduState). s.kept) p.0.rest) ∙ ap (λ ks. one.kept ∷ ks) (each_kept old new p.1)

pub loaded_all : (old new : SessionState) → LoadsAll old new → IsLike old (marked_of new)
loaded_all old new loads = record { hdus = each_like old.hdus new.hdus loads.each; tail = loads.tail; kept = each_kept old.hdus new.hdus loads.each }

-- where nothing is read again the file stays
pub like_same : (old new : SessionState) → new ≡ old → IsLike old (marked_of new)
like_same old new same = rw same (like_none old)

-- a file that was looked at alone stays over each that its reads may be of
pub looked_over : (it : Progress) (now : SessionState) (told : List ℕ) → marked_of now ≡ marked_of it.session → absences_of now.hdus ≡ absences_of it.session.hdus → standing_at told (record it { session = now }) ≡ standing_at told it
looked_over it now told marks absences = ap (λ (m : Marked). standing_over it (guarded it.tables m)) (any_same told it.session now marks absences)

-- a line without a command is answered over the file itself
pub replies_here : (before now : Progress) (reading : LineReading) (text : List ℕ) → text ≡ line_answer (standing_over before (guarded_by before before.session)) reading → standing_over now (guarded_by now now.session) ≡ line_left (standing_over before (guarded_by before before.session)) reading → RepliesLike before now reading text
replies_here before now reading text said left = record {
  had = guarded_by before before.session;
  like = like_guarded before.tables before.session (marked_of before.session) (like_none before.session);
  tables = refl;
  text_is = said;
  left = left;
}
