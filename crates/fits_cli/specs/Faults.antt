-- How many calls failed where a run ends by a fault, and why a file isn't saved (own).
use Rattle.std.specs.Prelude.{◌≡◌, ◌⊎◌, ℕ, ◌+◌, List, take}
use Rattle.fits_stream.specs.Stream.{SinkState, SourceState, FailsOnce, Prints}
use Rattle.fits_tell.specs.declared.fault.Fault.{Fault}
use Rattle.fits_tell.specs.declared.fault.Fault.TheVariants.{ReadFailed, WriteFailed, Reread as RereadFault}
use Rattle.fits_tell.specs.declared.reread.Reread.{Reread}
use Rattle.fits_tell.specs.declared.reread.Reread.TheVariants as again
use Rattle.fits_tell.specs.Faults.{PrintFails}

-- no data were wanted again
abbrev pub IsOnce : Fault → Type 0
IsOnce (RereadFault why) = ⊥
IsOnce fault = Unit {0}

-- they weren't had, and not because the file changed
abbrev pub IsUnchanged : Reread → Type 0
IsUnchanged why = why ≡ again.Changed → ⊥

-- how many reads of a file have failed, before and after its data weren't had again: one more where that is why, else no more
abbrev pub RereadCounts : ℕ → ℕ → Reread → Type 0
RereadCounts before after again.Failed = after ≡ before + 1
RereadCounts before after why = after ≡ before

-- the same for what ends a line or a save: no read fails but of data that weren't had again
abbrev pub FaultCounts : ℕ → ℕ → Fault → Type 0
FaultCounts before after (RereadFault why) = RereadCounts before after why
FaultCounts before after ReadFailed = ⊥
FaultCounts before after fault = after ≡ before

-- the same for what ends a script, a read of which may fail too
abbrev pub ScriptCounts : ℕ → ℕ → SourceState → SourceState → Fault → Type 0
ScriptCounts before after script script_after ReadFailed = (after ≡ before) × FailsOnce script script_after
ScriptCounts before after script script_after fault = FaultCounts before after fault

-- the same for what ends a run: a read of the script failed, or one of the file before the script was reached; where answers can't be
-- flushed that is the fault, also after a read of the file
abbrev pub RunCounts : ℕ → ℕ → SourceState → SourceState → Fault → Type 0
RunCounts before after script script_after ReadFailed =
    ((after ≡ before) × FailsOnce script script_after) ⊎ ((after ≡ before + 1) × (script_after ≡ script))
RunCounts before after script script_after WriteFailed = (after ≡ before) ⊎ (after ≡ before + 1)
RunCounts before after script script_after fault = FaultCounts before after fault

-- a file isn't saved whole: a write failed, or a read of data that are copied
abbrev pub SaveFails : List ℕ → SinkState → SinkState → Fault → Type 0
SaveFails bytes old new fault = PrintFails bytes old new fault ⊎ ((fault ≡ RereadFault again.Failed) × ((n : ℕ) × Prints (take n bytes) old new))
