-- A script that is accepted whole by itself is a run of plain lines.
use Rattle.std.proofs.Common.{◌≡◌, ℕ, Bool, true, false, List, [], ◌∷◌, ◌++◌, All, refl, ap, sym, ◌∙◌, append_assoc, subst, Option, None, Some, Ok, Err}
use Rattle.std.specs.Prelude.{◌==◌, ◌||◌, Result, if◌then◌else◌}
use Rattle.std.specs.List.{slice_split}
use Rattle.std.proofs.lemmas.Bool.{or_parts}
use Rattle.std.proofs.lemmas.List.{append-nil}
use Rattle.std.proofs.lemmas.List.Elements.{All-cons, All-head, All-nil, All-tail}
use Rattle.std.proofs.lemmas.List.Splits.{slice_split_at, slice_split_none}
use Rattle.fits_edit.specs.declared.edit.Edit.{Edit as SessionEdit}
use Rattle.fits_edit.specs.declared.edit.Edit.TheVariants.{Hdu, NewImage, RemoveHdu}
use Rattle.fits_edit.specs.declared.hdu_edit.HduEdit.TheVariants as hdu_edit
use Rattle.fits_passing.specs.File.{FileParts}
use Rattle.fits_making.specs.declared.refusal.Refusal.{Refusal}
use Rattle.fits_session.specs.Marked.{Marked, marked_after, marked_refusal, unmarked}
use Rattle.fits_script.specs.Cut.{HasNo}
use Rattle.fits_script.specs.Line.{command_of, reading_of}
use Rattle.fits_script.specs.declared.command.Command.TheVariants as command
use Rattle.fits_script.specs.declared.line_reading.LineReading.{LineReading}
use Rattle.fits_script.specs.declared.line_reading.LineReading.TheVariants.{TooLong, NoCommand, Said}
use Rattle.fits_patch.specs.Making.{left_unless, line_made, lines_made, lines_of, made_then, script_made, Made}
use Rattle.fits_cli.specs.Answer.{Standing, answer_of, answer_to, at_first_line, done_last, left_after, left_of, line_answer, line_left, meant_by, outcome_of}
use Rattle.fits_extended.specs.Stands.{queries_for, stands_for}
use Rattle.fits_cli.specs.Output.{answers, standing_after}
use Rattle.fits_cli.specs.Script.{HasNoLineFeed, IsCutInLines, ended_lines, script_lines}
use Rattle.fits_cli.specs.declared.terms.Terms.{Terms}
use Rattle.fits_laws.specs.Patches.{ArePlainTerms, RunsWhole}

-- no byte of a text is a line feed, one by one
none_each : (text : List ℕ) → HasNoLineFeed text → All (λ byte. (byte == 10) ≡ false) text
none_each [] none = All-nil (λ byte. (byte == 10) ≡ false)
none_each (byte ∷ bytes) none =
    let parts = or_parts (byte == 10) _ none in
    All-cons (λ byte. (byte == 10) ≡ false) byte bytes parts.0 (none_each bytes parts.1)

-- the parts of a text that is cut in lines
parts_of : (lines : List (List ℕ)) (last : List ℕ) → All HasNoLineFeed lines → HasNoLineFeed last → lines_of (ended_lines lines ++ last) ≡ lines ++ last ∷ []
parts_of [] last whole none = slice_split_none (λ byte. byte == 10) last (none_each last none)
parts_of (line ∷ lines) last whole none =
    ap lines_of (append_assoc (line ++ 10 ∷ []) (ended_lines lines) last ∙ append_assoc line (10 ∷ []) (ended_lines lines ++ last))
    ∙ slice_split_at (λ byte. byte == 10) line 10 (ended_lines lines ++ last) (none_each line (All-head HasNoLineFeed line lines whole)) refl
    ∙ ap (λ t. line ∷ t) (parts_of lines last (All-tail HasNoLineFeed line lines whole) none)

-- a plain line is done: it prints nothing, and leaves this
record IsDone (before : Standing) (reading : LineReading) (next : Marked) : Type 0 where
  printed : line_answer before reading ≡ []
  marked : (line_left before reading).marked ≡ next
  refused : (line_left before reading).refused ≡ before.refused
  extended : (line_left before reading).extended ≡ before.extended

-- an edit that isn't refused is
edit_done : (before : Standing) (line : List ℕ) (edit : SessionEdit) (refusal : Option Refusal) (next : Marked) → marked_refusal before.marked edit ≡ refusal → left_unless before.marked line edit refusal ≡ Ok next
    → IsDone before (Said (command.Edit edit)) next
unfolding line_answer line_left outcome_of
edit_done before line edit None next none made = record {
  printed = rw none refl;
  marked = rw none (let is : marked_after before.marked edit ≡ next = cc in is);
  refused = rw none refl;
  extended = rw none refl;
}
edit_done before line edit (Some why) next some made = absurd (cc)

-- so is a line that is accepted by itself
line_done : (before : Standing) (line : List ℕ) (reading : LineReading) (next : Marked) → line_made before.marked line reading ≡ Ok next → IsDone before reading next
unfolding line_answer line_left outcome_of
line_done before line TooLong next made = absurd (cc)
line_done before line (NoCommand misfit) next made = absurd (cc)
line_done before line (Said command.Nothing) next made = record { printed = refl; marked = (let is : before.marked ≡ next = cc in is); refused = refl; extended = refl }
line_done before line (Said (command.Edit (Hdu h (hdu_edit.Cards edit)))) next made = edit_done before line (Hdu h (hdu_edit.Cards edit)) (marked_refusal before.marked (Hdu h (hdu_edit.Cards edit))) next refl made
line_done before line (Said (command.Edit (Hdu h (hdu_edit.Pixels lo hi paint)))) next made = absurd (cc)
line_done before line (Said (command.Edit (Hdu h (hdu_edit.Reshape kind axes)))) next made = absurd (cc)
line_done before line (Said (command.Edit (Hdu h hdu_edit.Stamp))) next made = absurd (cc)
line_done before line (Said (command.Edit (Hdu h hdu_edit.Keep))) next made = absurd (cc)
line_done before line (Said (command.Edit (Hdu h hdu_edit.Release))) next made = absurd (cc)
line_done before line (Said (command.Edit (NewImage at kind axes))) next made = absurd (cc)
line_done before line (Said (command.Edit (RemoveHdu hdu))) next made = absurd (cc)
line_done before line (Said command.Offsets) next made = absurd (cc)
line_done before line (Said (command.Get hdu name)) next made = absurd (cc)
line_done before line (Said (command.Positions hdu name)) next made = absurd (cc)
line_done before line (Said command.Report) next made = absurd (cc)
line_done before line (Said (command.Statistics hdu)) next made = absurd (cc)
line_done before line (Said (command.Rectangle hdu lo hi)) next made = absurd (cc)
line_done before line (Said (command.Sums hdu)) next made = absurd (cc)
line_done before line (Said (command.Kept hdu)) next made = absurd (cc)

-- where extended lines aren't taken a line is plain: what it prints
text_alone : (before : Standing) (line : List ℕ) → before.extended ≡ false → answer_to before line ≡ line_answer before (reading_of line)
unfolding answer_to done_last
text_alone before line off =
    ap (λ (extended : Bool). answer_of before (meant_by (if extended then queries_for before.marked.file line else None) (if extended then stands_for before.whole before.marked.file line else Ok (line ∷ [])))) off

-- and what it leaves
left_alone : (before : Standing) (line : List ℕ) → before.extended ≡ false → left_after before line ≡ line_left before (reading_of line)
unfolding left_after done_last
left_alone before line off =
    ap (λ (extended : Bool). left_of before (meant_by (if extended then queries_for before.marked.file line else None) (if extended then stands_for before.whole before.marked.file line else Ok (line ∷ [])))) off

-- what is left of lines that are accepted by themselves, each over what those before it left
record AreDone (before : Standing) (lines : List (List ℕ)) (end : Marked) : Type 0 where
  printed : answers before lines ≡ []
  left : (standing_after before lines).marked ≡ end
  done : (standing_after before lines).refused ≡ before.refused

-- the first of lines is accepted, and the others over what it leaves
made_first : (made : Made) (next : Marked → Made) (end : Marked) → made_then made next ≡ Ok end → (it : Marked) × (made ≡ Ok it) × (next it ≡ Ok end)
made_first (Ok it) next end is = (it, refl, is)
made_first (Err stop) next end is = absurd (cc)

-- so they are done
lines_done : (before : Standing) (lines : List (List ℕ)) (end : Marked) → before.extended ≡ false → lines_made before.marked lines ≡ Ok end → AreDone before lines end
unfolding answers standing_after
lines_done before [] end off made = record { printed = refl; left = (let is : before.marked ≡ end = cc in is); done = refl }
lines_done before (line ∷ lines) end off made =
    let reading : LineReading = reading_of line in
    let first = made_first (line_made before.marked line reading) (λ next. lines_made next lines) end made in
    let one = line_done before line reading first.0 first.1 in
    let next : Standing = left_after before line in
    let is : next ≡ line_left before reading = left_alone before line off in
    let others = lines_done next lines end (ap (λ (st : Standing). st.extended) is ∙ one.extended ∙ off) (ap (λ (it : Marked). lines_made it lines) (ap (λ (st : Standing). st.marked) is ∙ one.marked) ∙ first.2) in
    record {
      printed = ap (λ (t : List ℕ). t ++ answers next lines) (text_alone before line off ∙ one.printed) ∙ others.printed;
      left = others.left;
      done = others.done ∙ ap (λ (st : Standing). st.refused) is ∙ one.refused;
    }

-- an empty line is nothing
empty_line : reading_of [] ≡ Said command.Nothing
unfolding reading_of command_of
empty_line = refl

-- so one more at the end changes nothing
without_empty : (it : Marked) (lines : List (List ℕ)) (end : Marked) → lines_made it (lines ++ [] ∷ []) ≡ Ok end → lines_made it lines ≡ Ok end
without_empty it [] end made = ap (λ (reading : LineReading). made_then (line_made it [] reading) (λ next. Ok next)) (sym empty_line) ∙ made
without_empty it (line ∷ lines) end made =
    let first = made_first (line_made it line (reading_of line)) (λ next. lines_made next (lines ++ [] ∷ [])) end made in
    ap (λ (m : Made). made_then m (λ next. lines_made next lines)) first.1 ∙ without_empty first.0 lines end first.2

-- the lines of a script are its parts, but for an empty one at its end
script_done : (it : Marked) (lines : List (List ℕ)) (last : List ℕ) (end : Marked) → lines_made it (lines ++ last ∷ []) ≡ Ok end → lines_made it (script_lines lines last) ≡ Ok end
script_done it lines [] end made = without_empty it lines end made
script_done it lines (byte ∷ bytes) end made = made

-- before the first line, where neither sums nor tables are kept, no HDU is kept
first_marked : (terms : Terms) (file : FileParts) → terms.sums ≡ false → terms.tables ≡ false → (at_first_line terms file).marked ≡ unmarked file
first_marked terms file sums tables = rw (sums, tables) refl

-- a script that is accepted by itself is accepted whole in a run
pub patch_runs : (terms : Terms) (file : FileParts) (script last : List ℕ) (lines : List (List ℕ)) (end : Marked) → ArePlainTerms terms
    → IsCutInLines script lines last → script_made file script ≡ Ok end → RunsWhole terms file (script_lines lines last) end
patch_runs terms file script last lines end plain cut made =
    let parts : lines_of script ≡ lines ++ last ∷ [] = ap lines_of cut.joined ∙ parts_of lines last cut.whole cut.open_end in
    let by_parts = ap (lines_made (unmarked file)) (sym parts) ∙ made in
    let by_lines = script_done (unmarked file) lines last end by_parts in
    let all = lines_done (at_first_line terms file) (script_lines lines last) end plain.plain (ap (λ (it : Marked). lines_made it (script_lines lines last)) (first_marked terms file plain.unkept plain.free) ∙ by_lines) in
    record { printed = all.printed; left = all.left; done = all.done }
