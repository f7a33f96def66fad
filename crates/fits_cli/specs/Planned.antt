-- How a run over a file that is to be changed in its place ends: its result is saved, or the blocks of the file that it changes are a plan (own).
use Rattle.std.specs.Prelude.{◌≡◌, ℕ, true, List, length, Option, None, Some, Result, Ok, Err, MatchOption}
use Rattle.fits_redo.specs.Plan.{agrees, redone}
use Rattle.fits_redo.specs.declared.plan.Plan.{Plan}
use Rattle.fits_stream.specs.Stream.{SinkState, SourceState, Prints}
use Rattle.fits_unit.specs.Again.{PrintsAs}
use Rattle.fits_passing.specs.declared.look.Look.{Look}
use Rattle.fits_cli.specs.Ends.{EndsBy, RunState}
use Rattle.fits_cli.specs.Frame.{EndLeaves, HasTotalBy, LeavesAs, LeavesFault, ScriptAnswers}
use Rattle.fits_cli.specs.declared.edited.Edited.{Edited}
use Rattle.fits_cli.specs.declared.edited.Edited.TheVariants.{Done}
use Rattle.fits_cli.specs.declared.planned.Planned.{Planned}
use Rattle.fits_cli.specs.declared.saves.Saves.{Saves}
use Rattle.fits_cli.specs.declared.terms.Terms.{Terms}
use Rattle.fits_tell.specs.declared.fault.Fault.{Fault}

-- nothing keeps the result back
abbrev pub IsDone : Edited → Type 0
IsDone (Done status) = Unit {0}
IsDone other = ⊥

-- how a run came to its end, whatever becomes of its result
abbrev pub edited_of : Result Planned Fault → Result Edited Fault
edited_of (Ok it) = Ok it.edited
edited_of (Err fault) = Err fault

-- a plan is one of a file of these bytes, and makes those of it
pub record MakesBytes (file bytes : List ℕ) (plan : Plan) : Type 0 where
  pub agrees : agrees plan.len plan.blocks.items file ≡ true
  pub gives : redone plan.blocks.items file ≡ bytes

-- a plan is one of a file of these bytes, and a run that has it ends as one that saved what it makes of them, wherever that was saved
pub record EndsByPlan (old new : RunState) (file : List ℕ) (edited : Edited) (plan : Plan) : Type 0 where
  pub agrees : agrees plan.len plan.blocks.items file ≡ true
  pub ends : (was now : SinkState) → Prints (redone plan.blocks.items file) was now → now.unflushed ≡ 0 → EndsBy old new was now (Ok edited)

-- how a run over a file of these bytes ends, of which it was told that it has so many: as any that saves its result, or by a plan
abbrev pub EndsOver : ℕ → List ℕ → RunState → RunState → SinkState → SinkState → Result Planned Fault → Type 0
EndsOver len file old new saved holds (Ok it) =
    MatchOption it.plan (EndsBy old new saved holds (Ok it.edited)) (λ plan. (holds ≡ saved) × (length file ≡ len → EndsByPlan old new file it.edited plan))
EndsOver len file old new saved holds (Err fault) = EndsBy old new saved holds (Err fault)

-- a run came to its end by a plan: no call of its script or of a sink failed, what was written is passed on, and nothing is saved
pub record LeavesPlan (script script' : SourceState) (out out' saved holds : SinkState) (it : Edited) : Type 0 where
  pub answers : ScriptAnswers script script' out out'
  pub flushed : out'.unflushed ≡ 0
  pub done : IsDone it
  pub saved_is : holds ≡ saved

-- what stands then, whatever the reads of the file gave
abbrev pub LeavesOver : Terms → SourceState → SourceState → SinkState → SinkState → SinkState → SinkState → Result Planned Fault → Type 0
LeavesOver terms script script' out out' saved holds (Ok it) =
    MatchOption it.plan (LeavesAs terms script script' out out' saved holds (Ok it.edited)) (λ plan. LeavesPlan script script' out out' saved holds it.edited)
LeavesOver terms script script' out out' saved holds (Err fault) = LeavesFault terms.saves script script' out out' saved holds fault

-- what private functions of a run keep to: these bytes are saved, or a plan makes them of a file of so many bytes, and nothing is
abbrev pub PlansOrSaves : ℕ → List ℕ → List ℕ → SinkState → SinkState → Option Plan → Type 0
PlansOrSaves len file bytes saved holds None = Prints bytes saved holds × (holds.unflushed ≡ 0)
PlansOrSaves len file bytes saved holds (Some plan) = (holds ≡ saved) × (length file ≡ len → MakesBytes file bytes plan)

-- what is saved is like these bytes, whatever the reads of the file gave
abbrev pub PlansLike : Look → List ℕ → SinkState → SinkState → Option Plan → Type 0
PlansLike look bytes saved holds None = PrintsAs (HasTotalBy look bytes) (length bytes) saved holds × (holds.unflushed ≡ 0)
PlansLike look bytes saved holds (Some plan) = holds ≡ saved

-- so it is where nothing keeps the result back
abbrev pub OverLeaves : Look → Saves → List ℕ → SinkState → SinkState → Planned → Type 0
OverLeaves look saves bytes saved holds it =
    MatchOption it.plan (EndLeaves look saves bytes saved holds it.edited) (λ plan. IsDone it.edited × (holds ≡ saved))
