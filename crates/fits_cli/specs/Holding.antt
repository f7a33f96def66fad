-- What private functions of a run keep to: what keeps its result from being saved, or that nothing does.
use Rattle.std.specs.Prelude.{◌≡◌, ℕ, List, Option, None, Some, Result, Ok, Err}
use Rattle.fits_stream.specs.Stream.{SinkState}
use Rattle.fits_passing.specs.declared.look.Look.{Look}
use Rattle.fits_cli.specs.Ends.{EndsBy, IsDue, ReachesEnd, RunState, StopsBy}
use Rattle.fits_cli.specs.Frame.{EndLeaves, PrintsSome, ResultLeaves}
use Rattle.fits_cli.specs.declared.edited.Edited.{Edited}
use Rattle.fits_cli.specs.declared.saves.Saves.{Saves}
use Rattle.fits_cli.specs.declared.saves.Saves.TheVariants.{Made, Nothing}
use Rattle.fits_tell.specs.declared.fault.Fault.{Fault}

-- a result is wanted
abbrev pub IsWanted : Saves → Type 0
IsWanted Nothing = ⊥
IsWanted (Made whole check) = Unit {0}

-- a run came to the end of its script, and its result is to be saved, as these bytes; it ends with this status then
pub record ComesDue (old new : RunState) (bytes : List ℕ) (status : ℕ) : Type 0 where
  pub end : ReachesEnd old new new.printed
  pub due : IsDue old.terms.saves end.run.output end.before end.after
  pub bytes_are : bytes ≡ end.run.output.saved
  pub status_is : status ≡ end.run.output.status

-- so it is, or something keeps it from being saved, or ends the run before
abbrev pub HoldsBack : RunState → RunState → List ℕ → ℕ → Result (Option Edited) Fault → Type 0
HoldsBack old new bytes status (Ok None) = ComesDue old new bytes status
HoldsBack old new bytes status (Ok (Some it)) = (saved : SinkState) → EndsBy old new saved saved (Ok it)
HoldsBack old new bytes status (Err fault) = StopsBy old new fault

-- what stands then, whatever the reads of the file gave: where nothing keeps it from being saved nothing more was printed
abbrev pub HoldingLeaves : Saves → SinkState → SinkState → Result (Option Edited) Fault → Type 0
HoldingLeaves saves out out' (Ok None) = IsWanted saves × (out' ≡ out)
HoldingLeaves saves out out' (Ok (Some it)) =
    PrintsSome out out' × (out.unflushed ≡ 0 → out'.unflushed ≡ 0) × ((look : Look) (bytes : List ℕ) (saved : SinkState) → EndLeaves look saves bytes saved saved it)
HoldingLeaves saves out out' (Err fault) = (saved : SinkState) → ResultLeaves saves out out' saved saved fault
