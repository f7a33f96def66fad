-- Lines that are done one by one, and the script that they are.
use Rattle.std.proofs.Common.{◌≡◌, ℕ, ◌+◌, ◌≤◌, Bool, false, true, List, [], ◌∷◌, ◌++◌, length, All, Result, Ok, Err, None, refl, ap, sym, ◌∙◌, inl, inr, rules}
use Rattle.std.specs.Prelude.{nat_le, if◌then◌else◌}
use Rattle.std.proofs.lemmas.List.{append-nil, take_all}
use Rattle.fits_passing.specs.File.{file_bytes, FileParts, IsFileOf}
use Rattle.fits_session.specs.Marked.{Marked}
use Rattle.fits_making.specs.declared.refusal.Refusal.{Refusal}
use Rattle.fits_making.specs.declared.refusal.Refusal.TheVariants as refusal
use Rattle.fits_script.specs.Line.{reading_of, ReadingNeedsMemory}
use Rattle.fits_script.specs.declared.command.Command.{Command}
use Rattle.fits_script.specs.declared.line_reading.LineReading.{LineReading}
use Rattle.fits_script.specs.declared.line_reading.LineReading.TheVariants.{TooLong, NoCommand, Said}
use Rattle.fits_extended.specs.Stands.{queries_for, stands_for}
use Rattle.fits_cli.specs.Answer.{meant_by, after_outcome, answer_of, answer_to, at_first_line, done_last, left_after, left_of, line_answer, line_left, outcome_of, outcome_text, CommandFails, Done, LineNeedsMemory, Standing}
use Rattle.fits_cli.specs.Output.{answers, output_of_lines, output_too_long, standing_after, Output, IsOutputOf}
use Rattle.fits_cli.specs.Script.{ended_lines, HasNoLineFeed}
use Rattle.fits_cli.specs.Terms.{plain}
use Rattle.fits_cli.specs.declared.limits.TheConstants.{SCRIPT_LIMIT}
use Rattle.fits_c.specs.Lines.{left_by, left_as, or_undone, printed_as, printed_from, said_by, IsOfLines, IsUndone}
use Rattle.fits_c.specs.declared.undone.Undone.TheVariants as undone

-- what an outcome prints
outcome_printed : (number : ℕ) (outcome : Result Done Refusal) → outcome_text number outcome ≡ printed_as number (or_undone outcome)
outcome_printed number (Ok done) = refl
outcome_printed number (Err why) = refl

-- what a line prints
pub answer_is : (before : Standing) (reading : LineReading) → line_answer before reading ≡ printed_as before.line (said_by before.marked reading)
unfolding line_answer
answer_is before TooLong = refl
answer_is before (NoCommand misfit) = refl
answer_is before (Said command) = outcome_printed before.line (outcome_of before.marked command)

-- what an outcome leaves
outcome_left : (before : Standing) (command : Command) (outcome : Result Done Refusal) → (after_outcome before command outcome).marked ≡ left_as before.marked (or_undone outcome)
outcome_left before command (Ok done) = refl
outcome_left before command (Err why) = refl

-- what a line leaves
pub left_is : (before : Standing) (reading : LineReading) → (line_left before reading).marked ≡ left_as before.marked (said_by before.marked reading)
unfolding line_left
left_is before TooLong = refl
left_is before (NoCommand misfit) = refl
left_is before (Said command) = outcome_left before command (outcome_of before.marked command)

-- the line after it has the next number
outcome_next : (before : Standing) (command : Command) (outcome : Result Done Refusal) → (after_outcome before command outcome).line ≡ before.line + 1
outcome_next before command (Ok done) = refl
outcome_next before command (Err why) = refl

-- so it is after any reading of one
next_is : (before : Standing) (reading : LineReading) → (line_left before reading).line ≡ before.line + 1
unfolding line_left
next_is before TooLong = refl
next_is before (NoCommand misfit) = refl
next_is before (Said command) = outcome_next before command (outcome_of before.marked command)

-- nor does a reading of one change whether extended lines are taken
outcome_same : (before : Standing) (command : Command) (outcome : Result Done Refusal) → (after_outcome before command outcome).extended ≡ before.extended
outcome_same before command (Ok done) = refl
outcome_same before command (Err why) = refl

-- so it is after any reading of one
same_after : (before : Standing) (reading : LineReading) → (line_left before reading).extended ≡ before.extended
unfolding line_left
same_after before TooLong = refl
same_after before (NoCommand misfit) = refl
same_after before (Said command) = outcome_same before command (outcome_of before.marked command)

-- where they aren't taken a line stands for itself: what it prints
answer_plain : (before : Standing) (line : List ℕ) → before.extended ≡ false → answer_to before line ≡ line_answer before (reading_of line)
unfolding answer_to done_last
answer_plain before line off =
    ap (λ (extended : Bool). answer_of before (meant_by (if extended then queries_for before.marked.file line else None) (if extended then stands_for before.whole before.marked.file line else Ok (line ∷ [])))) off

-- and what it leaves
left_plain : (before : Standing) (line : List ℕ) → before.extended ≡ false → left_after before line ≡ line_left before (reading_of line)
unfolding left_after done_last
left_plain before line off =
    ap (λ (extended : Bool). left_of before (meant_by (if extended then queries_for before.marked.file line else None) (if extended then stands_for before.whole before.marked.file line else Ok (line ∷ [])))) off

-- what lines print
texts_are : (before : Standing) (lines : List (List ℕ)) → before.extended ≡ false → answers before lines ≡ printed_from before.line before.marked lines
unfolding answers
texts_are before [] off = refl
texts_are before (line ∷ lines) off =
    let reading : LineReading = reading_of line in
    let after : Standing = line_left before reading in
    ap (λ (text : List ℕ). text ++ answers (left_after before line) lines) (answer_plain before line off ∙ answer_is before reading)
    ∙ ap (λ (rest : List ℕ). printed_as before.line (said_by before.marked reading) ++ rest)
    (ap (λ (it : Standing). answers it lines) (left_plain before line off)
    ∙ (texts_are after lines (same_after before reading ∙ off)
    ∙ (ap (λ (n : ℕ). printed_from n after.marked lines) (next_is before reading) ∙ ap (λ (it : Marked). printed_from (before.line + 1) it lines) (left_is before reading))))

-- what lines leave
marks_are : (before : Standing) (lines : List (List ℕ)) → before.extended ≡ false → (standing_after before lines).marked ≡ left_by before.marked lines
unfolding standing_after
marks_are before [] off = refl
marks_are before (line ∷ lines) off =
    let reading : LineReading = reading_of line in
    ap (λ (it : Standing). (standing_after it lines).marked) (left_plain before line off)
    ∙ (marks_are (line_left before reading) lines (same_after before reading ∙ off) ∙ ap (λ (it : Marked). left_by it lines) (left_is before reading))

-- a line that isn't read for want of memory
pub unread : (it : Marked) (reading : LineReading) → ReadingNeedsMemory reading → LineNeedsMemory it reading
unfolding LineNeedsMemory
unread it TooLong needs = needs
unread it (NoCommand misfit) needs = needs
unread it (Said command) needs = inl needs

-- a line whose command isn't done
pub not_done : (it : Marked) (command : Command) (why : Refusal) → CommandFails it command why → IsUndone it (Said command) (undone.Refused why)
unfolding LineNeedsMemory
not_done it command refusal.NoHdu fails = ap or_undone fails
not_done it command refusal.NoCard fails = ap or_undone fails
not_done it command refusal.NoKey fails = ap or_undone fails
not_done it command refusal.BadText fails = ap or_undone fails
not_done it command refusal.EndCard fails = ap or_undone fails
not_done it command refusal.Shape fails = ap or_undone fails
not_done it command refusal.BadName fails = ap or_undone fails
not_done it command refusal.BadValue fails = ap or_undone fails
not_done it command refusal.NotImage fails = ap or_undone fails
not_done it command refusal.BadRect fails = ap or_undone fails
not_done it command refusal.WrongCount fails = ap or_undone fails
not_done it command refusal.Range fails = ap or_undone fails
not_done it command refusal.PrimaryStays fails = ap or_undone fails
not_done it command refusal.TooLarge fails = ap or_undone fails
not_done it command refusal.Memory fails = inr fails

pub ruleset line_steps = (unread, not_done)

-- a choice by a limit that isn't passed
choice_within : (n limit : ℕ) (a b : Output) → n ≤ limit → a ≡ (if nat_le n limit then a else b)
choice_within n limit a b le = let test : nat_le n limit ≡ true = search rules in rw test refl

-- lines are a script, and this is its output
pub a_script : (bytes : List ℕ) (file : FileParts) (lines : List (List ℕ)) → IsFileOf bytes file → All HasNoLineFeed lines
    → length (ended_lines lines) ≤ SCRIPT_LIMIT → (output : Output) × IsOutputOf plain bytes (ended_lines lines) output × IsOfLines file lines output
a_script bytes file lines opens none short =
    let script : List ℕ = ended_lines lines in (
      output_of_lines plain file lines,
      inr (record {
        parts = file;
        lines = lines;
        last = [];
        opens = opens;
        cut = record { joined = take_all SCRIPT_LIMIT script short ∙ sym (append-nil script); whole = none; open_end = refl };
        is = choice_within (length script) SCRIPT_LIMIT (output_of_lines plain file lines) (output_too_long plain file lines) short;
      }),
      record {
        text = texts_are (at_first_line plain file) lines refl;
        saved = ap (λ (it : Marked). file_bytes it.file) (marks_are (at_first_line plain file) lines refl);
      },
    )
