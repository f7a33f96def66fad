-- Reads of a stored file, and files that they may be of (own).
use Rattle.std.specs.Prelude.{◌≡◌, ℕ, ◌+◌, ◌<◌, ◌≤◌, List, ◌++◌, length, Some}
use Rattle.std.specs.List.{slice_get}
use Rattle.fits_stream.specs.Log.{placed, AreThere}
use Rattle.fits_stream.specs.Stored.{ReadLogState}

-- reads that a file of these bytes may have given: each byte that came is the file's at its place, and where a read gave none
-- the file has none
pub record IsOf (bytes : List ℕ) (log : ReadLogState) : Type 0 where
  pub came : AreThere 0 bytes log.came
  pub ends : (n place : ℕ) → slice_get log.ends n ≡ Some place → length bytes ≤ place

-- reads that agree with one another: some file may have given them all
abbrev pub Agrees : ReadLogState → Type 0
Agrees log = (bytes : List ℕ) × IsOf bytes log

-- these bytes were read from a place on
pub record ReadsOn (place : ℕ) (old new : ReadLogState) (bytes : List ℕ) : Type 0 where
  pub came : new.came ≡ old.came ++ placed place bytes
  pub ends : (n end : ℕ) → slice_get old.ends n ≡ Some end → slice_get new.ends n ≡ Some end

-- a read at a place gave none
abbrev pub EndsAt : ReadLogState → ℕ → Type 0
EndsAt log place = (n : ℕ) × (slice_get log.ends n ≡ Some place)

-- fewer than so many were, and then a read gave none
pub record ReadsShort (place len : ℕ) (old new : ReadLogState) : Type 0 where
  pub bytes : List ℕ
  pub read : ReadsOn place old new bytes
  pub short : length bytes < len
  pub ended : EndsAt new (place + length bytes)

-- some were
pub record ReadsSome (place : ℕ) (old new : ReadLogState) : Type 0 where
  pub bytes : List ℕ
  pub read : ReadsOn place old new bytes
