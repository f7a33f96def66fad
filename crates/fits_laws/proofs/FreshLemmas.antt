-- What edits come to, one after another.
use Rattle.std.proofs.Common.{◌≡◌, ℕ, List, [], ◌∷◌, refl, ap, sym, ◌∙◌, subst, All}
use Rattle.std.specs.Prelude.{None, Result, Ok, Err}
use Rattle.std.proofs.lemmas.List.Elements.{All-head, All-tail}
use Rattle.fits_session.specs.Edit.{HasSizes}
use Rattle.fits_passing.specs.File.{FileParts, file_bytes, IsFile, IsFileOf}
use Rattle.fits_laws.specs.Fresh.{Answered, EditsInTurn, Fresh, ReadsAs, after_answer, fresh, marked_after_all}
use Rattle.fits_session.specs.Marked.{Marked, marked_after, marked_refusal}
use Rattle.fits_laws.specs.Edits.{AreRight}
use Rattle.fits_session.specs.Session.{file_of, marked_of, EditsTo, SessionState}
use Rattle.fits_edit.specs.declared.edit.Edit.{Edit}
use Rattle.fits_making.specs.declared.refusal.Refusal.{Refusal}

-- an accepted edit leaves a file, and both sums right in the HDUs that are kept stamped
abbrev pub LeavesFiles : Type 0
LeavesFiles = (it : Marked) (edit : Edit) → HasSizes edit → IsFile it.file → marked_refusal it edit ≡ None → IsFile (marked_after it edit).file

abbrev pub LeavesRight : Type 0
LeavesRight = (it : Marked) (edit : Edit) → HasSizes edit → IsFile it.file → AreRight it → marked_refusal it edit ≡ None → AreRight (marked_after it edit)

-- an edit leaves what its answer says
after_one : (edit : Edit) (old next : SessionState) (answer : Result (Unit {0}) Refusal) → EditsTo edit old next answer → marked_of next ≡ after_answer (marked_of old) edit answer
after_one edit old next (Ok done) p = p.ok
after_one edit old next (Err why) p = p.err

-- and that is a file
file_next : LeavesFiles → (edit : Edit) (old next : SessionState) (answer : Result (Unit {0}) Refusal) → HasSizes edit → IsFile (file_of old) → EditsTo edit old next answer → IsFile (file_of next)
file_next leaves edit old next (Ok done) sizes p q = subst (λ (it : Marked). IsFile it.file) (sym q.ok) (leaves (marked_of old) edit sizes p q.accepted)
file_next leaves edit old next (Err why) sizes p q = subst (λ (it : Marked). IsFile it.file) (sym q.err) p

-- with both sums right
right_next : LeavesRight → (edit : Edit) (old next : SessionState) (answer : Result (Unit {0}) Refusal) → HasSizes edit → IsFile (file_of old) → AreRight (marked_of old) → EditsTo edit old next answer → AreRight (marked_of next)
right_next leaves edit old next (Ok done) sizes p right q = subst AreRight (sym q.ok) (leaves (marked_of old) edit sizes p right q.accepted)
right_next leaves edit old next (Err why) sizes p right q = subst AreRight (sym q.err) right

-- edits in turn leave what the accepted ones do
pub after_all : (old new : SessionState) (steps : List Answered) → EditsInTurn steps old new → marked_of new ≡ marked_after_all (marked_of old) steps
after_all old new [] p = p
after_all old new (step ∷ steps) p =
    after_all p.1 new steps p.4
    ∙ ap (λ it. marked_after_all it steps) (after_one step.0 p.0 p.1 step.1 p.3 ∙ ap (λ it. after_answer it step.0 step.1) p.2)

-- it is a file
pub file_last : LeavesFiles → (old new : SessionState) (steps : List Answered) → All (λ (step : Answered). HasSizes step.0) steps → IsFile (file_of old) → EditsInTurn steps old new → IsFile (file_of new)
file_last leaves old new [] sizes p q = subst (λ (it : Marked). IsFile it.file) (sym q) p
file_last leaves old new (step ∷ steps) sizes p q =
    file_last leaves q.1 new steps (All-tail (λ (s : Answered). HasSizes s.0) step steps sizes)
    (file_next leaves step.0 q.0 q.1 step.1 (All-head (λ (s : Answered). HasSizes s.0) step steps sizes) (subst (λ (it : Marked). IsFile it.file) (sym q.2) p) q.3) q.4

-- with both sums right where HDUs are kept
pub right_last : LeavesFiles → LeavesRight → (old new : SessionState) (steps : List Answered) → All (λ (step : Answered). HasSizes step.0) steps → IsFile (file_of old) → AreRight (marked_of old) → EditsInTurn steps old new → AreRight (marked_of new)
right_last leaves right old new [] sizes p r q = subst AreRight (sym q) r
right_last leaves right old new (step ∷ steps) sizes p r q =
    let size = All-head (λ (s : Answered). HasSizes s.0) step steps sizes in
    let here : IsFile (file_of q.0) = subst (λ (it : Marked). IsFile it.file) (sym q.2) p in
    right_last leaves right q.1 new steps (All-tail (λ (s : Answered). HasSizes s.0) step steps sizes) (file_next leaves step.0 q.0 q.1 step.1 size here q.3) (right_next right step.0 q.0 q.1 step.1 size here (subst AreRight (sym q.2) r) q.3) q.4

-- a file is read as what it is
pub reads_last : LeavesFiles → (old new : SessionState) (steps : List Answered) → All (λ (step : Answered). HasSizes step.0) steps → IsFile (file_of old) → EditsInTurn steps old new → ReadsAs (file_bytes (file_of new)) (fresh (file_of new))
reads_last leaves old new steps sizes p q = record { file = file_of new; opened = file_last leaves old new steps sizes p q; is = refl }

-- one reading
pub read_once : ((bytes : List ℕ) (f g : FileParts) → IsFileOf bytes f → IsFileOf bytes g → f ≡ g) → (bytes : List ℕ) (a b : Fresh) → ReadsAs bytes a → ReadsAs bytes b → a ≡ b
read_once one bytes a b p q = p.is ∙ ap fresh (one bytes p.file q.file p.opened q.opened) ∙ sym q.is
