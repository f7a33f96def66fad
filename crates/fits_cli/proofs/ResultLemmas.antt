-- What a script makes of a file is a file.
use Rattle.std.proofs.Common.{◌≡◌, ℕ, Bool, true, false, List, [], ◌∷◌, length, refl, subst, Option, None, Some, inl, inr}
use Rattle.std.specs.Prelude.{Result, Ok, Err, if◌then◌else◌, nat_le}
use Rattle.std.proofs.lemmas.Bool.{cases_Bool}
use Rattle.fits_passing.specs.declared.verdicts.Verdicts.{Verdicts}
use Rattle.fits_session.specs.Edit.{HasSizes}
use Rattle.fits_passing.specs.File.{FileParts, IsFile, IsFileOf}
use Rattle.fits_session.specs.Marked.{kept_in, marked_after, marked_refusal}
use Rattle.fits_session.specs.Query.{datasum_in, positions_in, rect_in, stats_in, value_in, verdicts_in}
use Rattle.fits_edit.specs.declared.edit.Edit.{Edit as SessionEdit}
use Rattle.fits_making.specs.declared.refusal.Refusal.{Refusal}
use Rattle.fits_session.proofs.LawLemmas.{edited}
use Rattle.fits_script.specs.Line.{command_of, reading_of, said_or_none}
use Rattle.fits_script.specs.declared.command.Command.{Command}
use Rattle.fits_script.specs.declared.command.Command.TheVariants.{Nothing, Edit, Offsets, Get, Positions, Report, Statistics, Rectangle, Sums, Kept}
use Rattle.fits_script.specs.declared.misfit.Misfit.{Misfit}
use Rattle.fits_script.specs.declared.limits.TheConstants.{LINE_LIMIT}
use Rattle.fits_script.specs.declared.line_reading.LineReading.{LineReading}
use Rattle.fits_script.specs.declared.line_reading.LineReading.TheVariants.{TooLong, NoCommand, Said}
use Rattle.fits_cli.specs.Answer.{Meant, in_turn, of_each, of_none, Standing, after_outcome, all_refused, asked, done_last, each_left, first_line, held_after, held_at, is_last_done, kept_line, left_after, left_of, line_left, line_stands, outcome_of, plain_left, still_at, some_places, sums_asked, unless}
use Rattle.fits_cli.specs.Output.{standing_after}
use Rattle.fits_cli.proofs.SizeLemmas.{AllIn, IsSized, line_sized}

-- cards and names of what a line says are as long as they are
pub said_line : (line : List ℕ) (command : Command) → reading_of line ≡ Said command → IsSized command
unfolding reading_of
said_line line command is = subst (λ (found : Result Command Misfit). AllIn IsSized found) (of (nat_le (length line) LINE_LIMIT) (command_of line) is) (line_sized line)
  where
    of : (within : Bool) (found : Result Command Misfit) → (if within then said_or_none line found else TooLong) ≡ Said command → found ≡ Ok command
    of true (Ok other) e = cc
    of true (Err why) e = absurd (cc)
    of false found e = absurd (cc)

-- the file after a question is the one before
asked_file : {X : Type 0} (standing : Standing) (command : Command) (text : X → List ℕ) (answer : Result X Refusal) → IsFile standing.marked.file → IsFile (after_outcome standing command (asked standing.marked text answer)).marked.file
asked_file standing command text (Ok answer) p = p
asked_file standing command text (Err why) p = p

-- also where two are asked
sums_file : (standing : Standing) (command : Command) (sum : Result ℕ Refusal) (verdicts : Result Verdicts Refusal) → IsFile standing.marked.file → IsFile (after_outcome standing command (sums_asked standing.marked sum verdicts)).marked.file
sums_file standing command (Ok sum) (Ok verdicts) p = p
sums_file standing command (Ok sum) (Err why) p = p
sums_file standing command (Err why) verdicts p = p

-- an edit leaves a file, done or refused
edit_file : (standing : Standing) (edit : SessionEdit) (refusal : Option Refusal) → marked_refusal standing.marked edit ≡ refusal → HasSizes edit → IsFile standing.marked.file
    → IsFile (after_outcome standing (Edit edit) (unless refusal (record { text = []; left = marked_after standing.marked edit }))).marked.file
edit_file standing edit (Some why) is sizes p = p
edit_file standing edit None is sizes p = edited standing.marked edit sizes p is

-- so does every command whose cards and names are as long as they are
command_file : (standing : Standing) (command : Command) → IsSized command → IsFile standing.marked.file → IsFile (after_outcome standing command (outcome_of standing.marked command)).marked.file
unfolding outcome_of
command_file standing Nothing sized p = p
command_file standing (Edit edit) sized p = edit_file standing edit (marked_refusal standing.marked edit) refl sized p
command_file standing Offsets sized p = p
command_file standing (Get hdu name) sized p = asked_file standing (Get hdu name) _ (value_in standing.marked.file hdu name) p
command_file standing (Positions hdu name) sized p = asked_file standing (Positions hdu name) _ (some_places (positions_in standing.marked.file hdu name)) p
command_file standing Report sized p = p
command_file standing (Statistics hdu) sized p = asked_file standing (Statistics hdu) _ (stats_in standing.marked.file hdu) p
command_file standing (Rectangle hdu lo hi) sized p = asked_file standing (Rectangle hdu lo hi) _ (rect_in standing.marked.file hdu lo hi) p
command_file standing (Sums hdu) sized p = sums_file standing (Sums hdu) (datasum_in standing.marked.file hdu) (verdicts_in standing.marked.file hdu) p
command_file standing (Kept hdu) sized p = asked_file standing (Kept hdu) kept_line (kept_in standing.marked hdu) p

-- and every line
line_file : (standing : Standing) (line : List ℕ) (reading : LineReading) → reading_of line ≡ reading → IsFile standing.marked.file → IsFile (line_left standing reading).marked.file
unfolding line_left
line_file standing line TooLong is p = p
line_file standing line (NoCommand misfit) is p = p
line_file standing line (Said command) is p = command_file standing command (said_line line command is) p

-- plain lines that one line stands for do
plains_file : (standing : Standing) (plains : List (List ℕ)) → IsFile standing.marked.file → IsFile (plain_left (done_last standing plains)).marked.file
unfolding done_last
plains_file standing [] p = line_file standing [] (reading_of []) refl p
plains_file standing (plain ∷ others) p = elim (cases_Bool (is_last_done standing plain others)) [
  | inl last ↦ rw last (line_file standing plain (reading_of plain) refl p)
  | inr more ↦ rw more (plains_file (still_at standing (reading_of plain)) others (line_file standing plain (reading_of plain) refl p))
]

-- queries of several HDUs do
held_file : (standing : Standing) (plains : List (List ℕ)) → IsFile standing.marked.file → IsFile (held_after standing plains).marked.file
unfolding held_after
held_file standing [] p = p
held_file standing (plain ∷ others) p = held_file (held_at standing (reading_of plain)) others (line_file standing plain (reading_of plain) refl p)

-- whether one of them is done or none
each_file : (standing : Standing) (plains : List (List ℕ)) → IsFile standing.marked.file → IsFile (each_left standing plains).marked.file
each_file standing plains p = elim (cases_Bool (all_refused standing plains)) [
  | inl all ↦ rw all (line_file (held_after standing plains) (first_line plains) (reading_of (first_line plains)) refl (held_file standing plains p))
  | inr some ↦ rw some (held_file standing plains p)
]

-- whatever a line stands for
left_file : (standing : Standing) (stands : Meant) → IsFile standing.marked.file → IsFile (left_of standing stands).marked.file
left_file standing (in_turn plains) p = plains_file standing plains p
left_file standing (of_each plains) p = each_file standing plains p
left_file standing (of_none why) p = p

-- all lines do
pub lines_file : (standing : Standing) (lines : List (List ℕ)) → IsFile standing.marked.file → IsFile (standing_after standing lines).marked.file
unfolding standing_after left_after
lines_file standing [] p = p
lines_file standing (line ∷ lines) p = lines_file (left_after standing line) lines (left_file standing (line_stands standing line) p)

-- the bytes of a file's parts are the file
pub own_bytes : (bytes : List ℕ) (file : FileParts) → IsFileOf bytes file → IsFile file
own_bytes bytes file p = subst (λ (b : List ℕ). IsFileOf b file) p.front.joined p
