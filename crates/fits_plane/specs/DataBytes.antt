-- The bytes of a data unit, with what was looked at of them (own).
use Rattle.std.specs.Prelude.{◌≡◌, ℕ, List}

-- bytes, and how many of their blocks were scanned and of their pixels read so far
pub record DataState : Type 0 where
  pub bytes : List ℕ
  pub scans : ℕ
  pub reads : ℕ

-- blocks were scanned, and else nothing
abbrev pub IsScanned : DataState → DataState → Type 0
IsScanned old new = new ≡ record old { scans = new.scans }

-- pixels were read, and else nothing
abbrev pub IsRead : DataState → DataState → Type 0
IsRead old new = new ≡ record old { reads = new.reads }
