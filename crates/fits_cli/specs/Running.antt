-- What private functions of a run keep to: how far a script has come.
use Rattle.std.specs.Prelude.{◌≡◌, ◌⊎◌, ℕ, Bool, false, ◌+◌, ◌<◌, ◌≤◌, List, [], ◌∷◌, ◌++◌, length, take, All, Option, Result, Ok, Err}
use Rattle.fits_stream.specs.Intake.{Tells}
use Rattle.fits_stream.specs.Agree.{IsOf}
use Rattle.fits_stream.specs.Stored.{ReadLogState}
use Rattle.fits_passing.specs.Hdu.{HduParts}
use Rattle.fits_hdu.specs.State.{HduState, IsSeen}
use Rattle.fits_sum.specs.Words.{word_total}
use Rattle.fits_session.specs.Away.{AllLie}
use Rattle.fits_session.specs.Session.{kept_of as kept_hdus, marked_of, session_at, SessionState}
use Rattle.fits_passing.specs.declared.look.Look.{Look}
use Rattle.fits_passing.specs.declared.look.Look.TheVariants.{All as LookAll}
use Rattle.fits_passing.specs.File.{FileParts}
use Rattle.fits_cli.specs.Answer.{Meant, Standing, answer_of, answer_to, at_first_line, first_line, left_after, left_of, line_answer, line_left, AtEach, LineNeedsMemory, NeedsMemoryFor, PlainWantsData, StandsForData, StandsForMemory, WantsData, WantsDataFor}
use Rattle.fits_cli.specs.Ends.{run_by, CameTo, GaveFile, HasLines, IsQuiet, OverFile, RunState}
use Rattle.fits_script.specs.declared.limits.TheConstants.{LINE_LIMIT}
use Rattle.fits_cli.specs.declared.limits.TheConstants.{SCRIPT_LIMIT}
use Rattle.fits_script.specs.Line.{reading_of}
use Rattle.fits_cli.specs.Output.{answers, standing_after}
use Rattle.fits_cli.specs.Remark.{line_remark, remark_of, remark_to, remarks, Remarks}
use Rattle.fits_cli.specs.Script.{IsCutInLines, script_lines}
use Rattle.fits_stream.specs.Stream.{SourceState, SinkState, FailsOnce, FailsToFlush, Flushes, IsDry, Prints, PrintsFront, Reads, StaysQuiet}
use Rattle.fits_tell.specs.declared.fault.Fault.{Fault}
use Rattle.fits_tell.specs.declared.fault.Fault.TheVariants.{Refused, ScriptTooLong, Memory, ReadFailed, WriteFailed, Reread as RereadFault}
use Rattle.fits_tell.specs.declared.reread.Reread.{Reread}
use Rattle.fits_cli.specs.declared.terms.Terms.{Terms}
use Rattle.fits_cli.specs.Faults.{IsUnchanged}
use Rattle.fits_cli.specs.Terms.{check_of}
use Rattle.fits_tell.specs.declared.level.Level.TheVariants.{Quiet}
use Rattle.fits_cli.specs.Reports.{reports_of, Reports}
use Rattle.fits_session.specs.Marked.{guarded, Marked}
use Rattle.fits_script.specs.declared.line_reading.LineReading.{LineReading}

-- a file under its script: how far it has come, how much of it was looked at, and what its reads gave
pub record Progress : Type 0 where
  pub session : SessionState
  pub tables : Bool
  pub line : ℕ
  pub refused : ℕ
  pub edited : Bool
  pub whole : Bool
  pub extended : Bool
  pub look : Look
  pub log : ReadLogState

-- of the lines before this one some were refused at most; the data units lie in each file that the reads may be of, and where all was
-- looked at they are known
pub record IsUnderWay (hdus : List HduState) (look : Look) (log : ReadLogState) (line refused : ℕ) : Type 0 where
  pub few : refused < line
  pub lie : (told : List ℕ) → IsOf told log → AllLie told hdus
  pub seen : look ≡ LookAll → All IsSeen hdus

-- these bytes may have given all the reads of a file; where all of it is in memory any are
abbrev pub IsToldBy : Bool → List ℕ → ReadLogState → Type 0
IsToldBy whole told log = whole ≡ false → IsOf told log

-- an HDU with these cards, whose data unit is as long and, where that was known, has the same total
pub record IsLikeHdu (one : HduState) (other : HduParts) : Type 0 where
  pub header : other.header ≡ one.header.header
  pub size : length other.data_unit ≡ length one.plane.bytes
  pub total : IsSeen one → word_total other.data_unit ≡ word_total one.plane.bytes

-- one by one
abbrev pub AreLike : List HduState → List HduParts → Type 0
AreLike [] [] = Unit {0}
AreLike [] (other ∷ others) = ⊥
AreLike (one ∷ hdus) [] = ⊥
AreLike (one ∷ hdus) (other ∷ others) = IsLikeHdu one other × AreLike hdus others

-- a file like that of a session, with the same marks: all that a file may be whose data were read
pub record IsLike (one : SessionState) (other : Marked) : Type 0 where
  pub hdus : AreLike one.hdus other.file.hdus
  pub tail : other.file.tail ≡ one.tail
  pub kept : other.kept ≡ kept_hdus one.hdus

-- how things stand over another file
abbrev pub standing_over : Progress → Marked → Standing
standing_over it had = record {
  marked = had;
  line = it.line;
  refused = it.refused;
  edited = it.edited;
  whole = it.whole;
  extended = it.extended;
}

-- a file with marks, whose tables are kept as those of this one
abbrev pub guarded_by : Progress → SessionState → Marked
guarded_by it session = guarded it.tables (marked_of session)

-- how things stand where the file has these bytes, in which those data units lie that aren't in memory
abbrev pub standing_at : List ℕ → Progress → Standing
standing_at told it = standing_over it (guarded_by it (session_at told it.session))

-- a line is answered, and things stand as after it, over a file like the one that stands
pub record RepliesLike (before now : Progress) (reading : LineReading) (text : List ℕ) : Type 0 where
  pub had : Marked
  pub like : IsLike before.session had
  pub tables : had.tables ≡ before.tables
  pub text_is : text ≡ line_answer (standing_over before had) reading
  pub left : standing_over now (guarded_by now now.session) ≡ line_left (standing_over before had) reading

-- what hears of the lines: the sink of their answers, and that of remarks on them, if there is one
pub record Heard : Type 0 where
  pub out : SinkState
  pub told : Option SinkState

-- the two
abbrev pub heard : SinkState → Option SinkState → Heard
heard out told = record { out = out; told = told }

-- answers were printed, and remarks made
pub record Says (text remarked : List ℕ) (held holds : Heard) : Type 0 where
  pub printed : Prints text held.out holds.out
  pub told : Remarks remarked held.told holds.told

-- a prefix of the answers to these lines stands, and remarks were made on the first of them
pub record SaysFront (lines : List (List ℕ)) (before : Standing) (held holds : Heard) : Type 0 where
  pub printed : PrintsFront (answers before lines) held.out holds.out
  pub done : List (List ℕ)
  pub others : List (List ℕ)
  pub split : lines ≡ done ++ others
  pub told : Remarks (remarks before done) held.told holds.told

-- this is answered and this remarked, and things stand so
pub record AnswersAs (text remarked : List ℕ) (after now : Standing) (held holds : Heard) : Type 0 where
  pub said : Says text remarked held holds
  pub left : now ≡ after

-- what a line stands for is answered, and things stand as after it
abbrev pub AnswersMeant : Meant → Standing → Standing → Heard → Heard → Type 0
AnswersMeant meant before now held holds = AnswersAs (answer_of before meant) (remark_of before meant) (left_of before meant) now held holds

-- one line is answered, and things stand as after it
abbrev pub AnswersLine : List ℕ → Standing → Standing → Heard → Heard → Type 0
AnswersLine line before now held holds = AnswersAs (answer_to before line) (remark_to before line) (left_after before line) now held holds

-- the same of a plain line
abbrev pub AnswersPlain : List ℕ → Standing → Standing → Heard → Heard → Type 0
AnswersPlain line before now held holds = AnswersAs (line_answer before (reading_of line)) (line_remark before line) (line_left before (reading_of line)) now held holds

-- what has this answer isn't answered: memory was refused at it, a write of its answer failed, or data that it wants aren't had again
abbrev pub StopsAs : List ℕ → Type 0 → Type 0 → Heard → Heard → Fault → Type 0
StopsAs text needs wants held holds (Refused why) = ⊥
StopsAs text needs wants held holds ScriptTooLong = ⊥
StopsAs text needs wants held holds Memory = needs × (holds ≡ held)
StopsAs text needs wants held holds ReadFailed = ⊥
StopsAs text needs wants held holds WriteFailed = PrintsFront text held.out holds.out × (holds.told ≡ held.told)
StopsAs text needs wants held holds (RereadFault why) = IsUnchanged why × (wants × (holds ≡ held))

-- so it is with what a line stands for
abbrev pub MeantStops : Meant → Standing → Heard → Heard → Fault → Type 0
MeantStops meant before held holds fault =
    StopsAs (answer_of before meant) (StandsForMemory before meant) (StandsForData before meant) held holds fault

-- and with a line
abbrev pub LineStops : List ℕ → Standing → Heard → Heard → Fault → Type 0
LineStops line before held holds fault = StopsAs (answer_to before line) (NeedsMemoryFor before line) (WantsDataFor before line) held holds fault

-- and with a plain one
abbrev pub PlainStops : List ℕ → Standing → Heard → Heard → Fault → Type 0
PlainStops line before held holds fault =
    StopsAs (line_answer before (reading_of line)) (LineNeedsMemory before.marked (reading_of line)) (WantsData before.marked (reading_of line)) held holds fault

-- a plain line has no answer: memory was refused at it, or data that it wants aren't had again
abbrev pub LacksReply : Marked → LineReading → Fault → Type 0
LacksReply it reading (Refused why) = ⊥
LacksReply it reading ScriptTooLong = ⊥
LacksReply it reading Memory = LineNeedsMemory it reading
LacksReply it reading ReadFailed = ⊥
LacksReply it reading WriteFailed = ⊥
LacksReply it reading (RereadFault why) = IsUnchanged why × WantsData it reading

-- so it is at one of plain lines, each in its turn
abbrev pub LacksOne : Fault → Standing → List ℕ → Type 0
LacksOne fault standing plain = LacksReply standing.marked (reading_of plain) fault

-- queries of each HDU have no answer: memory was refused, or so it is at one of them
abbrev pub LacksEach : Standing → List (List ℕ) → Fault → Type 0
LacksEach before plains (Refused why) = ⊥
LacksEach before plains ScriptTooLong = ⊥
LacksEach before plains Memory = Unit {0}
LacksEach before plains ReadFailed = ⊥
LacksEach before plains WriteFailed = ⊥
LacksEach before plains (RereadFault why) = IsUnchanged why × AtEach PlainWantsData (first_line plains) before plains

-- these lines are answered, and things stand as after them
pub record AnswersLines (lines : List (List ℕ)) (before now : Standing) (held holds : Heard) : Type 0 where
  pub said : Says (answers before lines) (remarks before lines) held holds
  pub left : now ≡ standing_after before lines

-- the first of these lines are answered, and the next one needs this
pub record StopsAt (Needs : Standing → List ℕ → Type 0) (lines : List (List ℕ)) (before : Standing) (held holds : Heard) : Type 0 where
  pub done : List (List ℕ)
  pub line : List ℕ
  pub others : List (List ℕ)
  pub split : lines ≡ done ++ line ∷ others
  pub needs : Needs (standing_after before done) line
  pub said : Says (answers before done) (remarks before done) held holds

-- the next one may need memory
abbrev pub NeedsMemoryAt : List (List ℕ) → Standing → Heard → Heard → Type 0
NeedsMemoryAt lines before held holds = StopsAt NeedsMemoryFor lines before held holds

-- these lines aren't all answered
abbrev pub LinesStop : List (List ℕ) → Standing → Heard → Heard → Fault → Type 0
LinesStop lines before held holds (Refused why) = ⊥
LinesStop lines before held holds ScriptTooLong = ⊥
LinesStop lines before held holds Memory = NeedsMemoryAt lines before held holds
LinesStop lines before held holds ReadFailed = ⊥
LinesStop lines before held holds WriteFailed = SaysFront lines before held holds
LinesStop lines before held holds (RereadFault why) = IsUnchanged why × StopsAt WantsDataFor lines before held holds

-- of a line that may go on as much is kept as decides what it comes to
unfoldable pub kept_of : List ℕ → List ℕ
kept_of line = take (LINE_LIMIT + 1) line

-- so far a script was this: its whole lines are answered, and its open end is kept
pub record HasCome (script kept : List ℕ) (before now : Standing) (held holds : Heard) : Type 0 where
  pub lines : List (List ℕ)
  pub last : List ℕ
  pub cut : IsCutInLines script lines last
  pub kept_is : kept ≡ kept_of last
  pub answered : AnswersLines lines before now held holds

-- so far a script was this, and not all its whole lines are answered
pub record HasStopped (script : List ℕ) (before : Standing) (held holds : Heard) (fault : Fault) : Type 0 where
  pub lines : List (List ℕ)
  pub last : List ℕ
  pub cut : IsCutInLines script lines last
  pub stops : LinesStop lines before held holds fault

-- each piece of a script that comes next is answered
abbrev pub Continues : List ℕ → List ℕ → List ℕ → Standing → Standing → Heard → Heard → Type 0
Continues piece kept_before kept_now before now held holds =
    (script : List ℕ) (first : Standing) (start : Heard)
    → HasCome script kept_before first before start held → HasCome (script ++ piece) kept_now first now start holds

-- or it isn't
abbrev pub PieceStops : List ℕ → List ℕ → Standing → Heard → Heard → Fault → Type 0
PieceStops piece kept_before before held holds fault =
    (script : List ℕ) (first : Standing) (start : Heard)
    → HasCome script kept_before first before start held → HasStopped (script ++ piece) first start holds fault

-- the script ends, and its last line, which has no line feed, is answered
abbrev pub EndsScript : List ℕ → Standing → Standing → Heard → Heard → Type 0
EndsScript kept before now held holds =
    (lines : List (List ℕ)) (last : List ℕ) (first : Standing) (start : Heard)
    → kept ≡ kept_of last → AnswersLines lines first before start held → AnswersLines (script_lines lines last) first now start holds

-- or it isn't
abbrev pub EndStops : List ℕ → Standing → Heard → Heard → Fault → Type 0
EndStops kept before held holds fault =
    (lines : List (List ℕ)) (last : List ℕ) (first : Standing) (start : Heard)
    → kept ≡ kept_of last → AnswersLines lines first before start held → LinesStop (script_lines lines last) first start holds fault

-- the whole script is answered
pub record AnswersScript (old new : SourceState) (before now : Standing) (held holds : Heard) : Type 0 where
  pub script : List ℕ
  pub lines : List (List ℕ)
  pub last : List ℕ
  pub read : Reads script old new
  pub ended : IsDry new
  pub short : length script ≤ SCRIPT_LIMIT
  pub cut : IsCutInLines script lines last
  pub answered : AnswersLines (script_lines lines last) before now held holds

-- the script is too long: the whole lines within the limit are answered
pub record AnswersTooLong (old new : SourceState) (before : Standing) (held holds : Heard) : Type 0 where
  pub script : List ℕ
  pub lines : List (List ℕ)
  pub last : List ℕ
  pub told : Tells old script
  pub long : SCRIPT_LIMIT < length script
  pub quiet : StaysQuiet old new
  pub reached : CameTo old new lines last
  pub cut : IsCutInLines (take SCRIPT_LIMIT script) lines last
  pub said : Says (answers before lines) (remarks before lines) held holds

-- memory was refused: on the way to the first line, or at a line
pub record ScriptNeedsMemory (old new : SourceState) (before : Standing) (held holds : Heard) : Type 0 where
  pub quiet : StaysQuiet old new
  pub at : (new ≡ old × holds ≡ held)
      ⊎ ((lines : List (List ℕ)) × HasLines old new lines × NeedsMemoryAt lines before held holds)

-- a read failed: the whole lines that came before are answered
pub record ScriptReadFails (old new : SourceState) (before : Standing) (held holds : Heard) : Type 0 where
  pub failed : FailsOnce old new
  pub lines : List (List ℕ)
  pub last : List ℕ
  pub reached : CameTo old new lines last
  pub short : length reached.came ≤ SCRIPT_LIMIT
  pub said : Says (answers before lines) (remarks before lines) held holds

-- a write failed: a prefix of the answers stands
pub record ScriptWriteFails (old new : SourceState) (before : Standing) (held holds : Heard) : Type 0 where
  pub quiet : StaysQuiet old new
  pub lines : List (List ℕ)
  pub reached : HasLines old new lines
  pub front : SaysFront lines before held holds

-- data that a line wants aren't had again
pub record ScriptLacksData (old new : SourceState) (before : Standing) (held holds : Heard) (why : Reread) : Type 0 where
  pub unchanged : IsUnchanged why
  pub quiet : StaysQuiet old new
  pub lines : List (List ℕ)
  pub reached : HasLines old new lines
  pub at : StopsAt WantsDataFor lines before held holds

-- why a script isn't answered to its end
abbrev pub ScriptStops : SourceState → SourceState → Standing → Heard → Heard → Fault → Type 0
ScriptStops old new before held holds (Refused why) = ⊥
ScriptStops old new before held holds ScriptTooLong = AnswersTooLong old new before held holds
ScriptStops old new before held holds Memory = ScriptNeedsMemory old new before held holds
ScriptStops old new before held holds ReadFailed = ScriptReadFails old new before held holds
ScriptStops old new before held holds WriteFailed = ScriptWriteFails old new before held holds
ScriptStops old new before held holds (RereadFault why) = ScriptLacksData old new before held holds why

-- then the answers are flushed, or that call fails and is the fault
abbrev pub FlushesThen : {T : Type 0} → Result T Fault → Result T Fault → SinkState → SinkState → Type 0
FlushesThen answered result held holds =
    ((result ≡ answered) × Flushes held holds) ⊎ ((result ≡ Err WriteFailed) × FailsToFlush held holds)

-- how answers are flushed, whatever ended them: a sink that failed is left alone, and a failed read stays the fault
abbrev pub FlushesAnswers : {T : Type 0} → Result T Fault → Result T Fault → SinkState → SinkState → Type 0
FlushesAnswers (Ok done) result held holds = FlushesThen (Ok done) result held holds
FlushesAnswers (Err (Refused why)) result held holds = FlushesThen (Err (Refused why)) result held holds
FlushesAnswers (Err ScriptTooLong) result held holds = FlushesThen (Err ScriptTooLong) result held holds
FlushesAnswers (Err Memory) result held holds = FlushesThen (Err Memory) result held holds
FlushesAnswers (Err ReadFailed) result held holds =
    (result ≡ Err ReadFailed) × (Flushes held holds ⊎ FailsToFlush held holds)
FlushesAnswers (Err WriteFailed) result held holds = (result ≡ Err WriteFailed) × (holds ≡ held)
FlushesAnswers (Err (RereadFault why)) result held holds = FlushesThen (Err (RereadFault why)) result held holds

-- this is so of each source that gave the file that a run has at its first line, before and after it was read without a failed call
abbrev pub OverFirst : Bool → Terms → Standing → (SourceState → SourceState → Type 0) → Type 0
OverFirst stored terms first Is = (parts : FileParts) → first ≡ at_first_line terms parts → OverFile stored parts Is

-- a file was opened, a script over it answered to its end, and the answers flushed; things stand so, and where problems count this was
-- the report of the file
pub record IsAnsweredRun (old new : RunState) (told told_after : Option SinkState) (now : Standing) (before : Reports) : Type 0 where
  pub parts : FileParts
  pub opened : GaveFile old.file new.file parts
  pub read : IsQuiet old.stored old.file new.file
  pub mid : SinkState
  pub script : AnswersScript old.script new.script (at_first_line old.terms parts) now (heard old.printed told) (heard mid told_after)
  pub flush : Flushes mid new.printed
  pub before_is : (check_of old.terms.saves ≡ Quiet → ⊥) → before ≡ reports_of old.terms.tables parts

-- this is so of each run that was answered so, and whose sink of answers stands so then and later
abbrev pub OverAnswered : Terms → Bool → Standing → Reports → SinkState → SinkState → (RunState → RunState → Type 0) → Type 0
OverAnswered terms stored now before answered printed Is =
    (file after script script_after : SourceState) (held : SinkState) (told told_after : Option SinkState)
    → IsAnsweredRun (run_by terms stored file script held) (run_by terms stored after script_after answered) told told_after now before
    → Is (run_by terms stored file script held) (run_by terms stored after script_after printed)
