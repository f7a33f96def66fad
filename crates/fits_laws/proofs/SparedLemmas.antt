-- Where no edit is accepted a file stays.
use Rattle.std.proofs.Common.{◌≡◌, ℕ, false, List, [], ◌∷◌, refl, ◌∙◌, Option, None, Some, inl, inr}
use Rattle.std.specs.Prelude.{Result, Ok, Err}
use Rattle.std.proofs.lemmas.Bool.{cases_Bool}
use Rattle.fits_passing.specs.declared.verdicts.Verdicts.{Verdicts}
use Rattle.fits_session.specs.Marked.{kept_in, marked_after, marked_refusal}
use Rattle.fits_session.specs.Query.{datasum_in, positions_in, rect_in, stats_in, value_in, verdicts_in}
use Rattle.fits_edit.specs.declared.edit.Edit.{Edit as SessionEdit}
use Rattle.fits_making.specs.declared.refusal.Refusal.{Refusal}
use Rattle.fits_script.specs.Line.{reading_of}
use Rattle.fits_script.specs.declared.command.Command.{Command}
use Rattle.fits_script.specs.declared.command.Command.TheVariants.{Nothing, Edit, Offsets, Get, Positions, Report, Statistics, Rectangle, Sums, Kept}
use Rattle.fits_script.specs.declared.line_reading.LineReading.{LineReading}
use Rattle.fits_script.specs.declared.line_reading.LineReading.TheVariants.{TooLong, NoCommand, Said}
use Rattle.fits_cli.specs.Answer.{Meant, in_turn, of_each, of_none, Standing, after_outcome, all_refused, asked, each_left, first_line, held_after, held_at, done_last, is_edit, is_last_done, kept_line, left_after, left_of, line_left, line_stands, outcome_of, plain_left, still_at, some_places, sums_asked, unless}
use Rattle.fits_cli.specs.Output.{standing_after}

-- unless an edit was accepted by then, none was before, and the file and its marks are as they were
abbrev pub Stays : Standing → Standing → Type 0
Stays before after = after.edited ≡ false → (before.edited ≡ false) × (after.marked ≡ before.marked)

-- a question leaves them
asked_stays : {X : Type 0} (standing : Standing) (command : Command) (text : X → List ℕ) (answer : Result X Refusal) → is_edit command ≡ false → Stays standing (after_outcome standing command (asked standing.marked text answer))
asked_stays standing command text (Ok answer) query e = (rw query at e, refl)
asked_stays standing command text (Err why) query e = (e, refl)

-- also where two are asked
sums_stay : (standing : Standing) (command : Command) (sum : Result ℕ Refusal) (verdicts : Result Verdicts Refusal) → is_edit command ≡ false → Stays standing (after_outcome standing command (sums_asked standing.marked sum verdicts))
sums_stay standing command (Ok sum) (Ok verdicts) query e = (rw query at e, refl)
sums_stay standing command (Ok sum) (Err why) query e = (e, refl)
sums_stay standing command (Err why) verdicts query e = (e, refl)

-- an edit leaves them where it is refused, and is accepted else
edit_stays : (standing : Standing) (edit : SessionEdit) (refusal : Option Refusal) → Stays standing (after_outcome standing (Edit edit) (unless refusal (record { text = []; left = marked_after standing.marked edit })))
edit_stays standing edit (Some why) e = (e, refl)
edit_stays standing edit None e = absurd (cc)

-- so it is of every command
command_stays : (standing : Standing) (command : Command) → Stays standing (after_outcome standing command (outcome_of standing.marked command))
unfolding outcome_of
command_stays standing Nothing e = (e, refl)
command_stays standing (Edit edit) e = edit_stays standing edit (marked_refusal standing.marked edit) e
command_stays standing Offsets e = (e, refl)
command_stays standing (Get hdu name) e = asked_stays standing (Get hdu name) _ (value_in standing.marked.file hdu name) refl e
command_stays standing (Positions hdu name) e = asked_stays standing (Positions hdu name) _ (some_places (positions_in standing.marked.file hdu name)) refl e
command_stays standing Report e = (e, refl)
command_stays standing (Statistics hdu) e = asked_stays standing (Statistics hdu) _ (stats_in standing.marked.file hdu) refl e
command_stays standing (Rectangle hdu lo hi) e = asked_stays standing (Rectangle hdu lo hi) _ (rect_in standing.marked.file hdu lo hi) refl e
command_stays standing (Sums hdu) e = sums_stay standing (Sums hdu) (datasum_in standing.marked.file hdu) (verdicts_in standing.marked.file hdu) refl e
command_stays standing (Kept hdu) e = asked_stays standing (Kept hdu) kept_line (kept_in standing.marked hdu) refl e

-- and of every line
line_stays : (standing : Standing) (reading : LineReading) → Stays standing (line_left standing reading)
unfolding line_left
line_stays standing TooLong e = (e, refl)
line_stays standing (NoCommand misfit) e = (e, refl)
line_stays standing (Said command) e = command_stays standing command e

-- plain lines that one line stands for
plains_stay : (standing : Standing) (plains : List (List ℕ)) → Stays standing (plain_left (done_last standing plains))
unfolding done_last
plains_stay standing [] = line_stays standing (reading_of [])
plains_stay standing (plain ∷ others) = elim (cases_Bool (is_last_done standing plain others)) [
  | inl last ↦ rw last (line_stays standing (reading_of plain))
  | inr more ↦ rw more (λ e.
      let later = plains_stay (still_at standing (reading_of plain)) others e in
      let first = line_stays standing (reading_of plain) later.0 in
      (first.0, later.1 ∙ first.1))
]

-- queries of several HDUs
held_stay : (standing : Standing) (plains : List (List ℕ)) → Stays standing (held_after standing plains)
unfolding held_after
held_stay standing [] e = (e, refl)
held_stay standing (plain ∷ others) e =
    let later = held_stay (held_at standing (reading_of plain)) others e in
    let first = line_stays standing (reading_of plain) later.0 in
    (first.0, later.1 ∙ first.1)

-- whether one of them is done or none
each_stays : (standing : Standing) (plains : List (List ℕ)) → Stays standing (each_left standing plains)
each_stays standing plains = elim (cases_Bool (all_refused standing plains)) [
  | inl all ↦ rw all (λ e.
      let again = line_stays (held_after standing plains) (reading_of (first_line plains)) e in
      let before = held_stay standing plains again.0 in
      (before.0, again.1 ∙ before.1))
  | inr some ↦ rw some (held_stay standing plains)
]

-- and whatever a line stands for
stood_stays : (standing : Standing) (stands : Meant) → Stays standing (left_of standing stands)
stood_stays standing (in_turn plains) e = plains_stay standing plains e
stood_stays standing (of_each plains) e = each_stays standing plains e
stood_stays standing (of_none why) e = (e, refl)

-- all lines leave them, where none of them is an edit that was accepted
pub lines_stay : (standing : Standing) (lines : List (List ℕ)) → Stays standing (standing_after standing lines)
unfolding standing_after left_after
lines_stay standing [] e = (e, refl)
lines_stay standing (line ∷ lines) e =
    let others = lines_stay (left_after standing line) lines e in
    let first = stood_stays standing (line_stands standing line) others.0 in
    (first.0, others.1 ∙ first.1)
