-- What stands at the end of a run, whatever the reads of its file gave (own).
use Rattle.std.specs.Prelude.{◌≡◌, ◌⊎◌, ℕ, List, length, MatchOption, Result, Ok, Err}
use Rattle.fits_sum.specs.Words.{word_total}
use Rattle.fits_unit.specs.Again.{PrintsAs}
use Rattle.fits_stream.specs.Stream.{SinkState, SourceState, FailsOnce, Prints, PrintsFront, StaysQuiet}
use Rattle.fits_cli.specs.Answer.{Standing}
use Rattle.fits_cli.specs.Output.{saved_bytes}
use Rattle.fits_cli.specs.Terms.{look_of}
use Rattle.fits_passing.specs.declared.look.Look.{Look}
use Rattle.fits_passing.specs.declared.look.Look.TheVariants.{All as LookAll, Headers as LookHeaders}
use Rattle.fits_cli.specs.declared.edited.Edited.{Edited}
use Rattle.fits_cli.specs.declared.edited.Edited.TheVariants.{Done, KeptBack, Unsound}
use Rattle.fits_tell.specs.declared.end.End.{End}
use Rattle.fits_tell.specs.declared.fault.Fault.{Fault}
use Rattle.fits_tell.specs.declared.fault.Fault.TheVariants.{Refused, ScriptTooLong, Memory, ReadFailed, WriteFailed, Reread as RereadFault}
use Rattle.fits_cli.specs.declared.saves.Saves.{Saves}
use Rattle.fits_cli.specs.declared.saves.Saves.TheVariants.{Made, Nothing}
use Rattle.fits_cli.specs.declared.terms.Terms.{Terms}

-- a sink took some bytes, and no call of it failed
pub record PrintsSome (old new : SinkState) : Type 0 where
  pub text : List ℕ
  pub printed : Prints text old new

-- it took a prefix of some bytes, and one call failed
pub record PrintsPart (old new : SinkState) : Type 0 where
  pub text : List ℕ
  pub front : PrintsFront text old new

-- a line has no answer: memory was refused, or its data aren't had again
abbrev pub IsUnanswered : Fault → Type 0
IsUnanswered Memory = Unit {0}
IsUnanswered (RereadFault why) = Unit {0}
IsUnanswered fault = ⊥

-- what a sink took where lines aren't all answered
abbrev pub LinesLeave : SinkState → SinkState → Fault → Type 0
LinesLeave old new Memory = PrintsSome old new
LinesLeave old new WriteFailed = PrintsPart old new
LinesLeave old new (RereadFault why) = PrintsSome old new
LinesLeave old new fault = ⊥

-- what a sink took where a file isn't saved whole
abbrev pub SavingLeaves : SinkState → SinkState → Fault → Type 0
SavingLeaves old new WriteFailed = PrintsPart old new
SavingLeaves old new (RereadFault why) = PrintsSome old new
SavingLeaves old new fault = ⊥

-- lines of a script were answered, and no call of it or of the sink failed
pub record ScriptAnswers (script script' : SourceState) (out out' : SinkState) : Type 0 where
  pub quiet : StaysQuiet script script'
  pub said : PrintsSome out out'

-- they aren't all answered: a call failed exactly where it is said so
abbrev pub ScriptLeaves : SourceState → SourceState → SinkState → SinkState → Fault → Type 0
ScriptLeaves script script' out out' ScriptTooLong = ScriptAnswers script script' out out'
ScriptLeaves script script' out out' Memory = ScriptAnswers script script' out out'
ScriptLeaves script script' out out' ReadFailed = FailsOnce script script' × PrintsSome out out'
ScriptLeaves script script' out out' WriteFailed = StaysQuiet script script' × PrintsPart out out'
ScriptLeaves script script' out out' (RereadFault why) = ScriptAnswers script script' out out'
ScriptLeaves script script' out out' (Refused why) = ⊥

-- the same once the answers are flushed
abbrev pub AnswersLeave : SourceState → SourceState → SinkState → SinkState → Fault → Type 0
AnswersLeave script script' out out' ScriptTooLong = ScriptAnswers script script' out out' × (out'.unflushed ≡ 0)
AnswersLeave script script' out out' Memory = ScriptAnswers script script' out out'
AnswersLeave script script' out out' ReadFailed = FailsOnce script script'
AnswersLeave script script' out out' WriteFailed = StaysQuiet script script' × PrintsPart out out'
AnswersLeave script script' out out' (RereadFault why) = ScriptAnswers script script' out out' × (out'.unflushed ≡ 0)
AnswersLeave script script' out out' (Refused why) = ⊥

-- bytes have the total of these, where all of a file was looked at
abbrev pub HasTotalBy : Look → List ℕ → List ℕ → Type 0
HasTotalBy LookAll bytes like = word_total like ≡ word_total bytes
HasTotalBy LookHeaders bytes like = Unit {0}

-- as many bytes were saved as these are, where all of the file was looked at with the same total, and flushed; or none are wanted
abbrev pub SavesLike : Look → Saves → List ℕ → SinkState → SinkState → Type 0
SavesLike look Nothing bytes saved holds = holds ≡ saved
SavesLike look (Made whole check) bytes saved holds = PrintsAs (HasTotalBy look bytes) (length bytes) saved holds × (holds.unflushed ≡ 0)

-- so it is where nothing keeps the result back
abbrev pub EndLeaves : Look → Saves → List ℕ → SinkState → SinkState → Edited → Type 0
EndLeaves look saves bytes saved holds (Done status) = SavesLike look saves bytes saved holds
EndLeaves look saves bytes saved holds (KeptBack undone) = holds ≡ saved
EndLeaves look saves bytes saved holds (Unsound errors warnings) = holds ≡ saved

-- a prefix of the result was saved, and one call failed; none is where none is wanted
abbrev pub SavesPart : Saves → SinkState → SinkState → Type 0
SavesPart Nothing saved holds = ⊥
SavesPart (Made whole check) saved holds = PrintsPart saved holds

-- the result isn't saved: nothing was begun, or a call failed as it is said, or data weren't had again
abbrev pub ResultLeaves : Saves → SinkState → SinkState → SinkState → SinkState → Fault → Type 0
ResultLeaves saves out out' saved holds Memory = (out' ≡ out) × (holds ≡ saved)
ResultLeaves saves out out' saved holds WriteFailed = (PrintsPart out out' × (holds ≡ saved)) ⊎ ((out' ≡ out) × SavesPart saves saved holds)
ResultLeaves saves out out' saved holds (RereadFault why) = (out' ≡ out) × PrintsSome saved holds
ResultLeaves saves out out' saved holds fault = ⊥

-- a run came to its end: no call of its script or of a sink failed, what was written is passed on, and what is saved is like the file
-- that the script left
pub record LeavesEnd (terms : Terms) (script script' : SourceState) (out out' saved holds : SinkState) (it : Edited) : Type 0 where
  pub answers : ScriptAnswers script script' out out'
  pub flushed : out'.unflushed ≡ 0
  pub now : Standing
  pub result : EndLeaves (look_of terms) terms.saves (saved_bytes terms now) saved holds it

-- a fault ended it: nothing is saved before the answers are flushed, and a call failed exactly where it is said so
abbrev pub LeavesFault : Saves → SourceState → SourceState → SinkState → SinkState → SinkState → SinkState → Fault → Type 0
LeavesFault saves script script' out out' saved holds (Refused why) = (script' ≡ script) × (out' ≡ out) × (holds ≡ saved)
LeavesFault saves script script' out out' saved holds ScriptTooLong = ScriptAnswers script script' out out' × (out'.unflushed ≡ 0) × (holds ≡ saved)
LeavesFault saves script script' out out' saved holds Memory = ScriptAnswers script script' out out' × (holds ≡ saved)
LeavesFault saves script script' out out' saved holds ReadFailed = (FailsOnce script script' ⊎ ((script' ≡ script) × (out' ≡ out))) × (holds ≡ saved)
LeavesFault saves script script' out out' saved holds WriteFailed =
    StaysQuiet script script' × ((PrintsPart out out' × (holds ≡ saved)) ⊎ (PrintsSome out out' × (out'.unflushed ≡ 0) × SavesPart saves saved holds))
LeavesFault saves script script' out out' saved holds (RereadFault why) = ScriptAnswers script script' out out' × (out'.unflushed ≡ 0) × PrintsSome saved holds

-- what stands then
abbrev pub LeavesAs : Terms → SourceState → SourceState → SinkState → SinkState → SinkState → SinkState → Result Edited Fault → Type 0
LeavesAs terms script script' out out' saved holds (Ok it) = LeavesEnd terms script script' out out' saved holds it
LeavesAs terms script script' out out' saved holds (Err fault) = LeavesFault terms.saves script script' out out' saved holds fault

-- a fault ended a run that saves nothing: a call failed exactly where it is said so
abbrev pub AsksFault : SourceState → SourceState → SinkState → SinkState → Fault → Type 0
AsksFault script script' out out' (Refused why) = (script' ≡ script) × (out' ≡ out)
AsksFault script script' out out' ScriptTooLong = ScriptAnswers script script' out out' × (out'.unflushed ≡ 0)
AsksFault script script' out out' Memory = ScriptAnswers script script' out out'
AsksFault script script' out out' ReadFailed = FailsOnce script script' ⊎ ((script' ≡ script) × (out' ≡ out))
AsksFault script script' out out' WriteFailed = StaysQuiet script script' × PrintsPart out out'
AsksFault script script' out out' (RereadFault why) = ScriptAnswers script script' out out' × (out'.unflushed ≡ 0)

-- what stands after a run that saves nothing
abbrev pub AsksLeave : SourceState → SourceState → SinkState → SinkState → End → Type 0
AsksLeave script script' out out' end =
    MatchOption end.fault (ScriptAnswers script script' out out' × (out'.unflushed ≡ 0)) (λ fault. AsksFault script script' out out' fault)
