-- What a source gave to its end (own).
use Rattle.std.specs.Prelude.{◌≡◌, ◌↔◌, ℕ, ◌+◌, ◌<◌, ◌≤◌, Bool, IsTrue, List, [], ◌++◌, length, Option, Some, None}
use Rattle.std.specs.List.{slice_get}
use Rattle.fits_stream.specs.Intake.{IsSpent, Supply, Takes}
use Rattle.fits_stream.specs.Log.{Log, Logs}
use Rattle.fits_stream.specs.Stream.{Reads, SourceState}

-- after so many bytes a read gave none
abbrev pub EndedAfter : Option Log → Option Log → ℕ → Type 0
EndedAfter None new count = Unit {0}
EndedAfter (Some old) None count = ⊥
EndedAfter (Some old) (Some new) count = (n : ℕ) × (slice_get new.ends n ≡ Some (old.at + count))

-- these bytes came, then a read gave none; a source that goes on after its end may have given others since
pub record Gave (old new : SourceState) (bytes : List ℕ) : Type 0 where
  pub extra : List ℕ
  pub logs : Logs old.log new.log (bytes ++ extra)
  pub over : EndedAfter old.log new.log (length bytes)

-- bytes came, and whether they are more than so many is this
pub record Overruns (left : ℕ) (more : Bool) (old new : SourceState) : Type 0 where
  pub bytes : List ℕ
  pub read : Reads bytes old new
  pub far : IsTrue more ↔ (left < length bytes)

-- a fact of what was taken and of all that may follow it
pub record FindsAll (old new : Supply) (fact : List ℕ → Type 0) : Type 0 where
  pub bytes : List ℕ
  pub taken : Takes old new bytes
  pub all : (s : List ℕ) → length s ≤ new.left → (IsSpent new → s ≡ []) → fact (bytes ++ (new.ahead ++ s))

-- these bytes came, perhaps others after them, and there is a fact of them and of all that may follow them: where a read gave none after
-- them, nothing may
pub record GaveAll (old new : SourceState) (fact : List ℕ → Type 0) : Type 0 where
  pub bytes : List ℕ
  pub extra : List ℕ
  pub logs : Logs old.log new.log (bytes ++ extra)
  pub all : (s : List ℕ) → (EndedAfter old.log new.log (length bytes) → s ≡ []) → fact (bytes ++ s)
