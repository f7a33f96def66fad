-- What the lines of a script do to a file: the edits that are done, in their order (own).
use Rattle.std.specs.Prelude.{◌≡◌, ℕ, List, [], ◌∷◌, ◌++◌, false, map, Option, None, Some, Result, Ok, Err, if◌then◌else◌}
use Rattle.fits_edit.specs.declared.edit.Edit.{Edit}
use Rattle.fits_session.specs.Marked.{guarded, Marked, marked_refusal}
use Rattle.fits_making.specs.declared.refusal.Refusal.{Refusal}
use Rattle.fits_script.specs.Line.{reading_of}
use Rattle.fits_script.specs.declared.command.Command.TheVariants as command
use Rattle.fits_script.specs.declared.line_reading.LineReading.{LineReading}
use Rattle.fits_script.specs.declared.line_reading.LineReading.TheVariants.{Said}
use Rattle.fits_extended.specs.declared.unmet.Unmet.{Unmet}
use Rattle.fits_cli.specs.Answer.{Meant, in_turn, of_each, of_none, Standing, all_refused, first_line, held_after, held_at, is_last_done, left_after, line_stands, still_at}
use Rattle.fits_cli.specs.Output.{answers, standing_after}
use Rattle.fits_passing.specs.File.{FileParts}
use Rattle.fits_making.specs.Keeping.{are_right, vouch}
use Rattle.fits_session.specs.Marked.{vouched}
use Rattle.fits_cli.specs.Answer.{at_first_line}
use Rattle.fits_cli.specs.declared.terms.Terms.{Terms}
use Rattle.fits_laws.specs.Sums.{known_after_each, marked_after_each, marks_after_each, right_marks, unvouched_cards, AreAccepted, AreKeptSo, AreKnown}

-- an edit, unless it is refused
abbrev pub edit_unless : Option Refusal → Edit → List Edit
edit_unless None edit = edit ∷ []
edit_unless (Some why) edit = []

-- the edit of a plain line, if it says one that is done
abbrev pub edits_said : Marked → LineReading → List Edit
edits_said it (Said (command.Edit edit)) = edit_unless (marked_refusal it edit) edit
edits_said it reading = []

-- those of plain lines that one line stands for, each in its turn, as far as they are done
abbrev pub edits_done : Standing → List (List ℕ) → List Edit
edits_done standing [] = edits_said standing.marked (reading_of [])
edits_done standing (plain ∷ others) =
    edits_said standing.marked (reading_of plain)
    ++ (if is_last_done standing plain others then [] else edits_done (still_at standing (reading_of plain)) others)

-- those of plain lines of which each is done whatever the others come to
abbrev pub edits_asked : Standing → List (List ℕ) → List Edit
edits_asked standing [] = []
edits_asked standing (plain ∷ others) =
    edits_said standing.marked (reading_of plain) ++ edits_asked (held_at standing (reading_of plain)) others

-- and of the first of them, where each is refused and it is asked again
abbrev pub edits_each : Standing → List (List ℕ) → List Edit
edits_each standing plains =
    edits_asked standing plains
    ++ (if all_refused standing plains then edits_said (held_after standing plains).marked (reading_of (first_line plains)) else [])

-- those of what a line stands for
abbrev pub edits_stood : Standing → Meant → List Edit
edits_stood standing (in_turn plains) = edits_done standing plains
edits_stood standing (of_each plains) = edits_each standing plains
edits_stood standing (of_none why) = []

-- those of lines, in their order
abbrev pub edits_of : Standing → List (List ℕ) → List Edit
edits_of standing [] = []
edits_of standing (line ∷ lines) = edits_stood standing (line_stands standing line) ++ edits_of (left_after standing line) lines

-- lines leave what these edits do, each of which is accepted in its turn
pub record IsEdited (standing : Standing) (lines : List (List ℕ)) : Type 0 where
  pub left : (standing_after standing lines).marked ≡ marked_after_each standing.marked (edits_of standing lines)
  pub accepted : AreAccepted standing.marked (edits_of standing lines)

-- what the lines of a script leave of sums, where right ones are kept right: those of each HDU that is kept then vouch for it; of each that
-- was opened with both right, and wasn't released, both are; the cards of the others are those of the file as it was opened, as long as no
-- line stamps them or changes such a card
pub record LeavesSums (terms : Terms) (file : FileParts) (lines : List (List ℕ)) : Type 0 where
  pub sound : let left : Marked = (standing_after (at_first_line terms file) lines).marked in AreKeptSo vouch left left.kept
  pub right : AreKeptSo are_right (standing_after (at_first_line terms file) lines).marked (marks_after_each (right_marks file) (edits_of (at_first_line terms file) lines))
  pub others : AreKnown (standing_after (at_first_line terms file) lines).marked (known_after_each (guarded terms.tables (vouched file)) (map unvouched_cards file.hdus) (edits_of (at_first_line terms file) lines))

-- how things stand where extended lines aren't taken
abbrev pub unextended : Standing → Standing
unextended standing = record standing { extended = false }

-- the plain line that a line stands for; one that stands for none stays
abbrev pub plain_or : List ℕ → Meant → List ℕ
plain_or line (in_turn []) = line
plain_or line (in_turn (plain ∷ others)) = plain
plain_or line (of_each plains) = line
plain_or line (of_none why) = line

-- a line stands for one alone
abbrev pub IsOne : Meant → Type 0
IsOne (in_turn []) = ⊥
IsOne (in_turn (plain ∷ [])) = Unit {0}
IsOne (in_turn (plain ∷ (other ∷ others))) = ⊥
IsOne (of_each plains) = ⊥
IsOne (of_none why) = ⊥

-- the plain lines that lines stand for, one each, in the file as those before it left it
abbrev pub plain_lines : Standing → List (List ℕ) → List (List ℕ)
plain_lines standing [] = []
plain_lines standing (line ∷ lines) = plain_or line (line_stands standing line) ∷ plain_lines (left_after standing line) lines

-- each of the lines stands for one alone
abbrev pub AllStand : Standing → List (List ℕ) → Type 0
AllStand standing [] = Unit {0}
AllStand standing (line ∷ lines) = IsOne (line_stands standing line) × AllStand (left_after standing line) lines

-- lines print and leave what the plain lines do that they stand for, each in its place
pub record ArePlain (standing : Standing) (lines : List (List ℕ)) : Type 0 where
  pub text : answers standing lines ≡ answers (unextended standing) (plain_lines standing lines)
  pub left : unextended (standing_after standing lines) ≡ standing_after (unextended standing) (plain_lines standing lines)
