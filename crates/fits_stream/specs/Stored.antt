-- Bytes at places, and how many of them are gone past (own).
use Rattle.std.specs.Prelude.{◌≡◌, ℕ, ◌+◌, ◌<◌, List, length, take, drop, Option, None, Some, Result, IfOk}
use Rattle.std.specs.Io.KnownBytes.{Consumes, IsAtEnd, Keeps}
use Rattle.fits_stream.specs.Log.{Log, Logs}

-- the bytes that are left, where they are told, and what came before them, where that is kept
pub record Stock : Type 0 where
  pub left : Option (List ℕ)
  pub log : Option Log

-- these bytes are gone
pub record Comes (bytes : List ℕ) (old new : Stock) : Type 0 where
  pub gone : Consumes old.left new.left bytes
  pub log : Logs old.log new.log bytes

-- nothing is
pub record Waits (old new : Stock) : Type 0 where
  pub left : Keeps old.left new.left
  pub log : new.log ≡ old.log

-- so many bytes are gone, whatever they were
pub record GoesPast (old new : Stock) (count : ℕ) : Type 0 where
  pub bytes : List ℕ
  pub come : Comes bytes old new
  pub size : length bytes ≡ count

-- the bytes from a place on, where they are told
abbrev pub bytes_from : ℕ → Option (List ℕ) → Option (List ℕ)
bytes_from place None = None
bytes_from place (Some xs) = Some (drop place xs)

-- a read at a place gave the bytes from there on, and none only at the end or with no room
abbrev pub ReadsFrom : {E : Type 0} → ℕ → Option (List ℕ) → Result ℕ E → List ℕ → Type 0
ReadsFrom place bytes result buffer = IfOk result (λ n. Consumes (bytes_from place bytes) (bytes_from (place + n) bytes) (take n buffer) × (n ≡ 0 → 0 < length buffer → IsAtEnd (bytes_from place bytes)))

-- what a file has left that is read at its place, or where it has none, as a stream
abbrev pub left_at : Option ℕ → Option (List ℕ) → Option (List ℕ) → Option (List ℕ)
left_at None bytes stream = stream
left_at (Some place) bytes stream = bytes_from place bytes

-- a file, the place of its next byte, if it is read at places, what came of it, and how many of its calls have failed
pub record Placed (F : Type 0) : Type 0 where
  pub file : F
  pub place : Option ℕ
  pub log : Log
  pub failures : ℕ

-- a stored file that is lent, what came of it, where its next byte lies, and how many of its calls have failed
pub record Lent (F : Type 0) : Type 0 where
  pub file : F
  pub log : Log
  pub failures : ℕ

-- a stored file that is lent, where its next byte lies, and what came of it
pub record LentAt (F : Type 0) : Type 0 where
  pub file : F
  pub log : Log

-- reads of a stored file: what came, each byte with its place, the places at which none did, how many failed, and how many blocks of what
-- came were looked at as it was copied
pub record ReadLogState : Type 0 where
  pub came : List (ℕ × ℕ)
  pub ends : List ℕ
  pub failures : ℕ
  pub looked : ℕ
