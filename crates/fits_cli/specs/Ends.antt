-- How a run of `edit` or `ask` ends: what was printed and saved, what kept its result from being saved, and what stood before a fault (own).
use Rattle.std.specs.Prelude.{◌≡◌, ◌⊎◌, ℕ, ◌+◌, ◌<◌, ◌≤◌, Bool, false, true, List, [], ◌∷◌, ◌++◌, length, take, Option, Some, None, Result, Ok, Err, MatchOption}
use Rattle.std.specs.Io.KnownBytes.{Consumes}
use Rattle.fits_stream.specs.Agree.{IsOf}
use Rattle.fits_stream.specs.Gave.{Gave, GaveAll}
use Rattle.fits_stream.specs.Intake.{Tells}
use Rattle.fits_stream.specs.Log.{Logs}
use Rattle.fits_stream.specs.Stored.{ReadLogState}
use Rattle.fits_stream.specs.Stream.{SourceState, SinkState, FailsOnce, Gains, IsDry, Prints, PrintsFront, StaysQuiet}
use Rattle.fits_passing.specs.File.{file_bytes, FileParts, IsFile}
use Rattle.fits_passing.specs.Opening.{HasOpenFault}
use Rattle.fits_passing.specs.declared.open_fault.OpenFault.{OpenFault}
use Rattle.fits_cli.specs.Answer.{at_first_line, NeedsMemoryFor, Standing, WantsDataFor}
use Rattle.fits_tell.specs.Faults.{status_of_fault}
use Rattle.fits_cli.specs.Faults.{IsUnchanged}
use Rattle.fits_cli.specs.declared.limits.TheConstants.{SCRIPT_LIMIT}
use Rattle.fits_cli.specs.Output.{answers, standing_after, Output, IsOutputOf}
use Rattle.fits_cli.specs.Remark.{remarks, Remarks}
use Rattle.fits_cli.specs.Script.{IsCutInLines, script_lines}
use Rattle.fits_cli.specs.Reports.{new_error_count, new_lines, new_warning_count, AreReportsOf, HasMore, Reports}
use Rattle.fits_cli.specs.Terms.{check_of, holds_back, plain}
use Rattle.fits_cli.specs.declared.edited.Edited.{Edited}
use Rattle.fits_cli.specs.declared.edited.Edited.TheVariants.{Done, KeptBack, Unsound}
use Rattle.fits_tell.specs.declared.end.End.{End}
use Rattle.fits_tell.specs.declared.fault.Fault.{Fault}
use Rattle.fits_tell.specs.declared.fault.Fault.TheVariants.{Refused, ScriptTooLong, Memory, ReadFailed, WriteFailed, Reread as RereadFault}
use Rattle.fits_tell.specs.declared.level.Level.TheVariants.{Quiet}
use Rattle.fits_tell.specs.declared.reread.Reread.TheVariants as again
use Rattle.fits_cli.specs.declared.saves.Saves.{Saves}
use Rattle.fits_cli.specs.declared.saves.Saves.TheVariants.{Made, Nothing}
use Rattle.fits_cli.specs.declared.terms.Terms.{Terms}

-- the terms of a run and the streams that come before what it saves, and whether the file is read again where its data are wanted
pub record RunState : Type 0 where
  pub terms : Terms
  pub stored : Bool
  pub file : SourceState
  pub script : SourceState
  pub printed : SinkState

-- these streams on these terms, of which the file is read again or not
abbrev pub run_by : Terms → Bool → SourceState → SourceState → SinkState → RunState
run_by terms stored file script printed = record { terms = terms; stored = stored; file = file; script = script; printed = printed }

-- these streams on plain terms
abbrev pub run : SourceState → SourceState → SinkState → RunState
run file script printed = run_by plain false file script printed

-- no call of a file failed; of a stored one its log has how many reads did
abbrev pub IsQuiet : Bool → SourceState → SourceState → Type 0
IsQuiet stored old new = (stored ≡ true) ⊎ StaysQuiet old new

-- both sources were read without a failed call
pub record ReadsWell (old new : RunState) : Type 0 where
  pub of_file : IsQuiet old.stored old.file new.file
  pub of_script : StaysQuiet old.script new.script

-- what a source gave to its end is this file, and all that it had left, as far as it tells that
pub record GaveFile (old new : SourceState) (parts : FileParts) : Type 0 where
  pub told : Tells old (file_bytes parts)
  pub gave : Gave old new (file_bytes parts)
  pub is : IsFile parts

-- this is so of each source that gave this file, before and after it was read without a failed call
abbrev pub OverFile : Bool → FileParts → (SourceState → SourceState → Type 0) → Type 0
OverFile stored parts Is = (file after : SourceState) → GaveFile file after parts → IsQuiet stored file after → Is file after

-- a stored file of these bytes, of which so many reads have failed
abbrev pub stored_file : List ℕ → ReadLogState → SourceState
stored_file bytes log = record { remaining = Some bytes; log = None; failures = log.failures }

-- this is so of each file that all the reads of a log may be of, before the last of them and after
abbrev pub OverReads : ReadLogState → ReadLogState → (SourceState → SourceState → Type 0) → Type 0
OverReads old new Is = (bytes : List ℕ) → IsOf bytes new → Is (stored_file bytes old) (stored_file bytes new)

-- what was read of a script, as far as its limit, and the whole lines of that
pub record CameTo (old new : SourceState) (lines : List (List ℕ)) (last : List ℕ) : Type 0 where
  pub came : List ℕ
  pub read : Consumes old.remaining new.remaining came
  pub log : Logs old.log new.log came
  pub cut : IsCutInLines (take SCRIPT_LIMIT came) lines last

-- the lines that may have been answered: the whole ones, and the last piece too where the script ended with it
pub record HasLines (old new : SourceState) (lines : List (List ℕ)) : Type 0 where
  pub whole : List (List ℕ)
  pub last : List ℕ
  pub reached : CameTo old new whole last
  pub are : (lines ≡ whole) ⊎ (IsDry new × (length reached.came ≤ SCRIPT_LIMIT) × (lines ≡ script_lines whole last))

-- a run with the output of its file and its script, on its terms; with its answers the sink of answers stood so
pub record IsRun (old new : RunState) (answered : SinkState) (fault : Option Fault) : Type 0 where
  pub file : List ℕ
  pub script : List ℕ
  pub output : Output
  pub told_file : Tells old.file file
  pub told_script : Tells old.script script
  pub is : IsOutputOf old.terms file script output
  pub printed : Prints output.text old.printed answered
  pub fault_is : output.fault ≡ fault
  pub read : ReadsWell old new

-- the script was answered to its end and the answers are flushed; what becomes of the result is up to its lines and to the reports of the
-- bytes that were read and of those that the script makes of them
pub record ReachesEnd (old new : RunState) (answered : SinkState) : Type 0 where
  pub run : IsRun old new answered None
  pub gave : Gave old.file new.file run.file
  pub flushed : answered.unflushed ≡ 0
  pub before : Reports
  pub after : Reports
  pub before_is : AreReportsOf old.terms.tables before run.file
  pub after_is : AreReportsOf old.terms.tables after run.output.made

-- the result is to be saved: it is wanted, no line holds it back, and there are no more problems of a code that counts
abbrev pub IsDue : Saves → Output → Reports → Reports → Type 0
IsDue Nothing output before after = ⊥
IsDue (Made whole check) output before after = (holds_back (Made whole check) output.undone ≡ false) × (HasMore check before after → ⊥)

-- it is, and is flushed; or none is wanted, and nothing is saved
abbrev pub IsSaved : Saves → Output → Reports → Reports → SinkState → SinkState → Type 0
IsSaved Nothing output before after saved holds = holds ≡ saved
IsSaved (Made whole check) output before after saved holds =
    IsDue (Made whole check) output before after × Prints output.saved saved holds × (holds.unflushed ≡ 0)

-- a run to its end, whose result is where it is to be
pub record Succeeds (old new : RunState) (saved holds : SinkState) (status : ℕ) : Type 0 where
  pub end : ReachesEnd old new new.printed
  pub status_is : status ≡ end.run.output.status
  pub result : IsSaved old.terms.saves end.run.output end.before end.after saved holds

-- so many lines weren't done, and every one was to be
pub record IsKeptBack (old new : RunState) (undone : ℕ) : Type 0 where
  pub end : ReachesEnd old new new.printed
  pub kept : holds_back old.terms.saves end.run.output.undone ≡ true
  pub count : undone ≡ end.run.output.undone

-- there are more problems of a code that counts: the lines of the new ones follow the answers
pub record IsUnsound (old new : RunState) (errors warnings : ℕ) : Type 0 where
  pub answered : SinkState
  pub end : ReachesEnd old new answered
  pub done : holds_back old.terms.saves end.run.output.undone ≡ false
  pub more : HasMore (check_of old.terms.saves) end.before end.after
  pub some : 0 < errors + warnings
  pub errors_are : errors ≡ new_error_count (check_of old.terms.saves) end.before end.after
  pub warnings_are : warnings ≡ new_warning_count (check_of old.terms.saves) end.before end.after
  pub lines : Prints (new_lines (check_of old.terms.saves) end.before end.after) answered new.printed
  pub flushed : new.printed.unflushed ≡ 0

-- the file doesn't open, nor would it, whatever else might have come where no read had given none: no other stream was touched
pub record IsRefused (old new : RunState) (why : OpenFault) : Type 0 where
  pub run : IsRun old new new.printed (Some (Refused why))
  pub gave : GaveAll old.file new.file (λ bytes. HasOpenFault bytes why)
  pub script : new.script ≡ old.script
  pub printed : new.printed ≡ old.printed

-- the script is too long: the answers are flushed
pub record IsTooLong (old new : RunState) : Type 0 where
  pub run : IsRun old new new.printed (Some ScriptTooLong)
  pub gave : Gave old.file new.file run.file
  pub printed : new.printed.unflushed ≡ 0

-- a run stops at a line that needs this: the answers to the lines before it are flushed
pub record StopsAtLine (Needs : Standing → List ℕ → Type 0) (old new : RunState) : Type 0 where
  pub parts : FileParts
  pub lines : List (List ℕ)
  pub line : List ℕ
  pub others : List (List ℕ)
  pub opened : GaveFile old.file new.file parts
  pub reached : HasLines old.script new.script (lines ++ line ∷ others)
  pub needs : Needs (standing_after (at_first_line old.terms parts) lines) line
  pub printed : Prints (answers (at_first_line old.terms parts) lines) old.printed new.printed
  pub flushed : new.printed.unflushed ≡ 0

-- memory was refused: on the way to the first line, so that nothing is printed, or at a line
pub record IsOutOfMemory (old new : RunState) : Type 0 where
  pub read : ReadsWell old new
  pub printed : (new.script ≡ old.script × Prints [] old.printed new.printed) ⊎ StopsAtLine NeedsMemoryFor old new

-- memory was refused after the script, for the report of its result or the lines of new problems
pub record LacksReport (old new : RunState) : Type 0 where
  pub end : ReachesEnd old new new.printed
  pub done : holds_back old.terms.saves end.run.output.undone ≡ false
  pub checked : check_of old.terms.saves ≡ Quiet → ⊥

-- a read of the file failed: no other stream was touched
pub record FileFails (old new : RunState) : Type 0 where
  pub failed : FailsOnce old.file new.file
  pub script : new.script ≡ old.script
  pub printed : new.printed ≡ old.printed

-- at the end either nothing failed and all is passed on, or a call failed
abbrev pub FlushesOrFails : SinkState → SinkState → Type 0
FlushesOrFails old new =
    ((new.failures ≡ old.failures) × (new.unflushed ≡ 0)) ⊎ (new.failures ≡ old.failures + 1)

-- a read of the script failed: the whole lines that came before are answered; the answers are flushed, unless that call fails too
pub record ScriptFails (old new : RunState) : Type 0 where
  pub of_file : IsQuiet old.stored old.file new.file
  pub failed : FailsOnce old.script new.script
  pub parts : FileParts
  pub lines : List (List ℕ)
  pub last : List ℕ
  pub opened : GaveFile old.file new.file parts
  pub reached : CameTo old.script new.script lines last
  pub short : length reached.came ≤ SCRIPT_LIMIT
  pub printed : Gains old.printed.contents new.printed.contents (answers (at_first_line old.terms parts) lines)
  pub flushed : FlushesOrFails old.printed new.printed

-- a write of answers failed: a prefix of the answers stands
pub record AnswersFail (old new : RunState) : Type 0 where
  pub read : ReadsWell old new
  pub parts : FileParts
  pub lines : List (List ℕ)
  pub opened : GaveFile old.file new.file parts
  pub reached : HasLines old.script new.script lines
  pub printed : PrintsFront (answers (at_first_line old.terms parts) lines) old.printed new.printed

-- a write of the lines of new problems failed: a prefix of them stands after the answers
pub record NewErrorsFail (old new : RunState) : Type 0 where
  pub answered : SinkState
  pub end : ReachesEnd old new answered
  pub done : holds_back old.terms.saves end.run.output.undone ≡ false
  pub more : HasMore (check_of old.terms.saves) end.before end.after
  pub lines : PrintsFront (new_lines (check_of old.terms.saves) end.before end.after) answered new.printed

-- data that a line wants aren't had again
pub record LacksWantedData (old new : RunState) : Type 0 where
  pub read : ReadsWell old new
  pub at : StopsAtLine WantsDataFor old new

-- what stands before a fault that ends a run ahead of saving
abbrev pub StopsBy : RunState → RunState → Fault → Type 0
StopsBy old new (Refused why) = IsRefused old new why
StopsBy old new ScriptTooLong = IsTooLong old new
StopsBy old new Memory = IsOutOfMemory old new ⊎ LacksReport old new
StopsBy old new ReadFailed = FileFails old new ⊎ ScriptFails old new
StopsBy old new WriteFailed = AnswersFail old new ⊎ NewErrorsFail old new
StopsBy old new (RereadFault why) = (old.stored ≡ true) × IsUnchanged why × LacksWantedData old new

-- a write of the saved file failed: all answers are flushed, and a prefix of the file stands
pub record SavingFails (old new : RunState) (saved holds : SinkState) : Type 0 where
  pub end : ReachesEnd old new new.printed
  pub due : IsDue old.terms.saves end.run.output end.before end.after
  pub front : PrintsFront end.run.output.saved saved holds

-- a read of data that are copied failed: all answers are flushed, and a prefix of the file stands
pub record CopyingFails (old new : RunState) (saved holds : SinkState) : Type 0 where
  pub end : ReachesEnd old new new.printed
  pub due : IsDue old.terms.saves end.run.output end.before end.after
  pub count : ℕ
  pub front : Prints (take count end.run.output.saved) saved holds

-- what stands before a fault that ends a run, which comes before anything is saved, or as the result is saved
abbrev pub FailsBy : RunState → RunState → SinkState → SinkState → Fault → Type 0
FailsBy old new saved holds fault =
    (StopsBy old new fault × (holds ≡ saved))
    ⊎ (((fault ≡ WriteFailed) × SavingFails old new saved holds) ⊎ ((old.stored ≡ true) × (fault ≡ RereadFault again.Failed) × CopyingFails old new saved holds))

-- how a run ends: its result is saved or none is wanted, or something keeps it from being saved, or by a fault
abbrev pub EndsBy : RunState → RunState → SinkState → SinkState → Result Edited Fault → Type 0
EndsBy old new saved holds (Ok (Done status)) = Succeeds old new saved holds status
EndsBy old new saved holds (Ok (KeptBack undone)) = IsKeptBack old new undone × (holds ≡ saved)
EndsBy old new saved holds (Ok (Unsound errors warnings)) = IsUnsound old new errors warnings × (holds ≡ saved)
EndsBy old new saved holds (Err fault) = FailsBy old new saved holds fault

-- the status of a run that came to its end
abbrev pub status_of_edited : Edited → ℕ
status_of_edited (Done status) = status
status_of_edited (KeptBack undone) = 1
status_of_edited (Unsound errors warnings) = 1

-- how a run ended, with its status: that of a fault where one ended it
abbrev pub end_of : Result Edited Fault → End
end_of (Ok it) = record { status = status_of_edited it; fault = None }
end_of (Err fault) = record { status = status_of_fault fault; fault = Some fault }

-- how a run ends whose result nothing keeps from being saved, with its status: that of a fault where one ends it
abbrev pub EndsAs : RunState → RunState → SinkState → SinkState → End → Type 0
EndsAs old new saved holds end =
    MatchOption end.fault (Succeeds old new saved holds end.status) (λ fault. FailsBy old new saved holds fault × (end.status ≡ status_of_fault fault))

-- remarks were made on lines of a script over a file: those that were answered, or some of the first of them
pub record AreRemarksOn (terms : Terms) (file file_after script script_after : SourceState) (told told_after : Option SinkState) : Type 0 where
  pub parts : FileParts
  pub lines : List (List ℕ)
  pub others : List (List ℕ)
  pub opened : GaveFile file file_after parts
  pub reached : HasLines script script_after (lines ++ others)
  pub made : Remarks (remarks (at_first_line terms parts) lines) told told_after

-- or none were, where the script wasn't reached
abbrev pub AreToldOf : Terms → SourceState → SourceState → SourceState → SourceState → Option SinkState → Option SinkState → Type 0
AreToldOf terms file file_after script script_after told told_after = (told_after ≡ told) ⊎ AreRemarksOn terms file file_after script script_after told told_after

-- remarks were made on all lines of a script over a file
pub record AreAllRemarks (terms : Terms) (file file_after script : SourceState) (told told_after : Option SinkState) : Type 0 where
  pub parts : FileParts
  pub text : List ℕ
  pub lines : List (List ℕ)
  pub last : List ℕ
  pub opened : GaveFile file file_after parts
  pub told_script : Tells script text
  pub cut : IsCutInLines text lines last
  pub made : Remarks (remarks (at_first_line terms parts) (script_lines lines last)) told told_after

-- the remarks of a run: on all lines of its script where it came to its end, else on some of the first
abbrev pub RemarksBy : Terms → SourceState → SourceState → SourceState → SourceState → Option SinkState → Option SinkState → Result Edited Fault → Type 0
RemarksBy terms file file_after script script_after told told_after (Ok it) = AreAllRemarks terms file file_after script told told_after
RemarksBy terms file file_after script script_after told told_after (Err fault) = AreToldOf terms file file_after script script_after told told_after

-- the same by its end
abbrev pub RemarksEndAs : Terms → SourceState → SourceState → SourceState → SourceState → Option SinkState → Option SinkState → End → Type 0
RemarksEndAs terms file file_after script script_after told told_after end =
    MatchOption end.fault (AreAllRemarks terms file file_after script told told_after) (λ fault. AreToldOf terms file file_after script script_after told told_after)
