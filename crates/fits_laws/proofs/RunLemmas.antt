-- What lines leave is what their edits do that are done.
use Rattle.std.proofs.Common.{◌≡◌, ℕ, List, [], ◌∷◌, ◌++◌, Bool, true, map, refl, ap, sym, subst, ◌∙◌, Option, None, Some, inl, inr}
use Rattle.std.specs.Prelude.{Result, Ok, Err, if◌then◌else◌}
use Rattle.std.proofs.lemmas.Bool.{cases_Bool}
use Rattle.std.proofs.lemmas.List.{append-nil}
use Rattle.fits_passing.specs.declared.verdicts.Verdicts.{Verdicts}
use Rattle.fits_edit.specs.declared.edit.Edit.{Edit as SessionEdit}
use Rattle.fits_session.specs.Edit.{HasSizes}
use Rattle.fits_session.specs.Marked.{guarded, Marked, kept_in, marked_after, marked_refusal}
use Rattle.fits_session.specs.Query.{datasum_in, positions_in, rect_in, stats_in, value_in, verdicts_in}
use Rattle.fits_making.specs.declared.refusal.Refusal.{Refusal}
use Rattle.fits_script.specs.Line.{reading_of}
use Rattle.fits_script.specs.declared.command.Command.{Command}
use Rattle.fits_script.specs.declared.command.Command.TheVariants.{Nothing, Edit, Offsets, Get, Positions, Report, Statistics, Rectangle, Sums, Kept}
use Rattle.fits_script.specs.declared.line_reading.LineReading.{LineReading}
use Rattle.fits_script.specs.declared.line_reading.LineReading.TheVariants.{TooLong, NoCommand, Said}
use Rattle.fits_extended.specs.declared.unmet.Unmet.{Unmet}
use Rattle.fits_cli.specs.Answer.{Meant, in_turn, of_each, of_none, Standing, after_outcome, all_refused, asked, each_left, first_line, held_after, held_at, done_last, is_last_done, kept_line, left_after, left_of, line_left, line_stands, outcome_of, plain_left, still_at, some_places, sums_asked, unless}
use Rattle.fits_cli.specs.Output.{standing_after}
use Rattle.fits_cli.proofs.ResultLemmas.{said_line}
use Rattle.fits_cli.proofs.SizeLemmas.{IsSized}
use Rattle.fits_passing.specs.File.{FileParts, IsFile}
use Rattle.fits_making.specs.Keeping.{are_right, vouch}
use Rattle.fits_session.specs.Marked.{unmarked, vouched}
use Rattle.fits_cli.specs.Answer.{at_first_line}
use Rattle.fits_cli.specs.declared.terms.Terms.{Terms}
use Rattle.fits_laws.specs.Runs.{IsEdited, LeavesSums, edit_unless, edits_asked, edits_done, edits_each, edits_of, edits_said, edits_stood}
use Rattle.fits_laws.specs.Sums.{AreAccepted, AreKeptSo, AreKnown, known_after_each, marked_after_each, marks_after_each, right_marks, unvouched_cards}
use Rattle.fits_laws.proofs.SumLemmas.{is_vouched, other_sums_stay, right_sums_stay}

-- what follows other edits
after_both : (it : Marked) (first others : List SessionEdit) → marked_after_each it (first ++ others) ≡ marked_after_each (marked_after_each it first) others
after_both it [] others = refl
after_both it (edit ∷ first) others = after_both (marked_after it edit) first others

-- is accepted after them
accepted_both : (it : Marked) (first others : List SessionEdit) → AreAccepted it first → AreAccepted (marked_after_each it first) others → AreAccepted it (first ++ others)
accepted_both it [] others p q = q
accepted_both it (edit ∷ first) others p q = (p.0, p.1, accepted_both (marked_after it edit) first others p.2 q)

-- a question leaves all as it was
asked_same : {X : Type 0} (standing : Standing) (command : Command) (text : X → List ℕ) (answer : Result X Refusal) → (after_outcome standing command (asked standing.marked text answer)).marked ≡ standing.marked
asked_same standing command text (Ok answer) = refl
asked_same standing command text (Err why) = refl

-- also where two are asked
sums_same : (standing : Standing) (command : Command) (sum : Result ℕ Refusal) (verdicts : Result Verdicts Refusal) → (after_outcome standing command (sums_asked standing.marked sum verdicts)).marked ≡ standing.marked
sums_same standing command (Ok sum) (Ok verdicts) = refl
sums_same standing command (Ok sum) (Err why) = refl
sums_same standing command (Err why) verdicts = refl

-- edits leave what they do, each accepted in its turn
record Leaves (it left : Marked) (edits : List SessionEdit) : Type 0 where
  is : left ≡ marked_after_each it edits
  accepted : AreAccepted it edits

-- none
none_left : (it left : Marked) → left ≡ it → Leaves it left []
none_left it left same = record { is = same; accepted = tt }

-- an edit, done or refused
edit_left : (standing : Standing) (edit : SessionEdit) (refusal : Option Refusal) → marked_refusal standing.marked edit ≡ refusal → HasSizes edit
    → Leaves standing.marked (after_outcome standing (Edit edit) (unless refusal (record { text = []; left = marked_after standing.marked edit }))).marked (edit_unless refusal edit)
edit_left standing edit (Some why) is sizes = none_left standing.marked standing.marked refl
edit_left standing edit None is sizes = record { is = refl; accepted = (sizes, is, tt) }

-- a command
command_left : (standing : Standing) (command : Command) → IsSized command → Leaves standing.marked (after_outcome standing command (outcome_of standing.marked command)).marked (edits_said standing.marked (Said command))
unfolding outcome_of
command_left standing Nothing sized = none_left _ _ refl
command_left standing (Edit edit) sized = edit_left standing edit (marked_refusal standing.marked edit) refl sized
command_left standing Offsets sized = none_left _ _ refl
command_left standing (Get hdu name) sized = none_left _ _ (asked_same standing (Get hdu name) _ (value_in standing.marked.file hdu name))
command_left standing (Positions hdu name) sized = none_left _ _ (asked_same standing (Positions hdu name) _ (some_places (positions_in standing.marked.file hdu name)))
command_left standing Report sized = none_left _ _ refl
command_left standing (Statistics hdu) sized = none_left _ _ (asked_same standing (Statistics hdu) _ (stats_in standing.marked.file hdu))
command_left standing (Rectangle hdu lo hi) sized = none_left _ _ (asked_same standing (Rectangle hdu lo hi) _ (rect_in standing.marked.file hdu lo hi))
command_left standing (Sums hdu) sized = none_left _ _ (sums_same standing (Sums hdu) (datasum_in standing.marked.file hdu) (verdicts_in standing.marked.file hdu))
command_left standing (Kept hdu) sized = none_left _ _ (asked_same standing (Kept hdu) kept_line (kept_in standing.marked hdu))

-- a line
one_left : (standing : Standing) (line : List ℕ) (reading : LineReading) → reading_of line ≡ reading → Leaves standing.marked (line_left standing reading).marked (edits_said standing.marked reading)
unfolding line_left
one_left standing line TooLong is = none_left _ _ refl
one_left standing line (NoCommand misfit) is = none_left _ _ refl
one_left standing line (Said command) is = command_left standing command (said_line line command is)

-- some edits, and then others
both_left : (it next left : Marked) (first others : List SessionEdit) → Leaves it next first → Leaves next left others → Leaves it left (first ++ others)
both_left it next left first others p q = record {
  is = q.is ∙ ap (λ (m : Marked). marked_after_each m others) p.is ∙ sym (after_both it first others);
  accepted = accepted_both it first others p.accepted (subst (λ (m : Marked). AreAccepted m others) p.is q.accepted);
}

-- plain lines that one line stands for
plains_left : (standing : Standing) (plains : List (List ℕ)) → Leaves standing.marked (plain_left (done_last standing plains)).marked (edits_done standing plains)
unfolding done_last
plains_left standing [] = one_left standing [] (reading_of []) refl
plains_left standing (plain ∷ others) =
    let next : Standing = still_at standing (reading_of plain) in
    let said = edits_said standing.marked (reading_of plain) in
    let first = one_left standing plain (reading_of plain) refl in
    elim (cases_Bool (is_last_done standing plain others)) [
      | inl last ↦ rw (last, append-nil said) first
      | inr more ↦ rw more (both_left standing.marked next.marked (plain_left (done_last next others)).marked said (edits_done next others) first (plains_left next others))
    ]

-- queries of several HDUs
asked_left : (standing : Standing) (plains : List (List ℕ)) → Leaves standing.marked (held_after standing plains).marked (edits_asked standing plains)
unfolding held_after
asked_left standing [] = none_left _ _ refl
asked_left standing (plain ∷ others) =
    let next : Standing = held_at standing (reading_of plain) in
    both_left standing.marked next.marked (held_after next others).marked (edits_said standing.marked (reading_of plain)) (edits_asked next others) (one_left standing plain (reading_of plain) refl) (asked_left next others)

-- whether one of them is done or none
eachs_left : (standing : Standing) (plains : List (List ℕ)) → Leaves standing.marked (each_left standing plains).marked (edits_each standing plains)
eachs_left standing plains =
    let after : Standing = held_after standing plains in
    let first : List ℕ = first_line plains in
    let all_asked = asked_left standing plains in
    elim (cases_Bool (all_refused standing plains)) [
      | inl all ↦ rw all (both_left standing.marked after.marked (line_left after (reading_of first)).marked (edits_asked standing plains) (edits_said after.marked (reading_of first)) all_asked (one_left after first (reading_of first) refl))
      | inr some ↦ rw (some, append-nil (edits_asked standing plains)) all_asked
    ]

-- whatever a line stands for
stood_left : (standing : Standing) (stands : Meant) → Leaves standing.marked (left_of standing stands).marked (edits_stood standing stands)
stood_left standing (in_turn plains) = plains_left standing plains
stood_left standing (of_each plains) = eachs_left standing plains
stood_left standing (of_none why) = none_left _ _ refl

-- all lines
pub lines_edited : (standing : Standing) (lines : List (List ℕ)) → IsEdited standing lines
unfolding standing_after left_after
lines_edited standing [] = record { left = refl; accepted = tt }
lines_edited standing (line ∷ lines) =
    let next : Standing = left_after standing line in
    let first = stood_left standing (line_stands standing line) in
    let others = lines_edited next lines in
    let said = edits_stood standing (line_stands standing line) in
    record {
      left = others.left ∙ ap (λ it. marked_after_each it (edits_of next lines)) first.is ∙ sym (after_both standing.marked said (edits_of next lines));
      accepted = accepted_both standing.marked said (edits_of next lines) first.accepted (subst (λ it. AreAccepted it (edits_of next lines)) first.is others.accepted);
    }

-- the marks after edits are those that their HDUs have then
kept_each : (it : Marked) (edits : List SessionEdit) → (marked_after_each it edits).kept ≡ marks_after_each it.kept edits
unfolding marked_after
kept_each it [] = refl
kept_each it (edit ∷ edits) = kept_each (marked_after it edit) edits

-- where right sums are kept right, the HDUs are kept whose sums vouch for them
first_vouched : (terms : Terms) (file : FileParts) → terms.sums ≡ true → (at_first_line terms file).marked ≡ guarded terms.tables (vouched file)
first_vouched terms file on = ap (λ (b : Bool). let it : Marked = record { file = file; kept = if b then (vouched file).kept else (unmarked file).kept; tables = terms.tables } in it) on

-- so lines leave right sums right, and others as they were
pub leaves_sums_right : (terms : Terms) (file : FileParts) (lines : List (List ℕ)) → terms.sums ≡ true → IsFile file → LeavesSums terms file lines
leaves_sums_right terms file lines on whole =
    let first : Standing = at_first_line terms file in
    let edits : List SessionEdit = edits_of first lines in
    let done = lines_edited first lines in
    let it : Marked = guarded terms.tables (vouched file) in
    let begins = first_vouched terms file on in
    let start = is_vouched file in
    let accepted : AreAccepted it edits = subst (λ (it : Marked). AreAccepted it edits) begins done.accepted in
    let left : (standing_after first lines).marked ≡ marked_after_each it edits = done.left ∙ ap (λ (it : Marked). marked_after_each it edits) begins in
    let sound : AreKeptSo vouch (marked_after_each it edits) (marks_after_each it.kept edits) = right_sums_stay vouch it it.kept edits refl whole accepted (record { sums = start.sound.sums; kept = start.sound.kept }) in
    record {
      sound = subst (λ (it : Marked). AreKeptSo vouch it it.kept) (sym left) (subst (AreKeptSo vouch (marked_after_each it edits)) (sym (kept_each it edits)) sound);
      right = subst (λ (it : Marked). AreKeptSo are_right it (marks_after_each (right_marks file) edits)) (sym left) (right_sums_stay are_right it (right_marks file) edits refl whole accepted (record { sums = start.right.sums; kept = start.right.kept }));
      others = subst (λ (left : Marked). AreKnown left (known_after_each it (map unvouched_cards file.hdus) edits)) (sym left) (other_sums_stay it (map unvouched_cards file.hdus) edits (record { cards = start.others.cards; free = start.others.free }));
    }
