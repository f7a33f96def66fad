-- What streams do to the bytes that are known of them, and which calls count as failed (own).
use Rattle.std.specs.Prelude.{◌≡◌, ℕ, ◌+◌, ◌≤◌, List, length, take, nat_lt, ◌==◌, ◌&&◌, if◌then◌else◌, Option}
use Rattle.std.specs.Io.KnownBytes.{Appends, Consumes, Keeps}
use Rattle.fits_stream.specs.Log.{Grows, IsDone, Log, Logs}

-- the bytes that a sink holds, where it tells them, and those that its writes took, where that is known
pub record Held : Type 0 where
  pub told : Option (List ℕ)
  pub taken : Option (List ℕ)

-- what a sink holds and took, how many of its calls failed, and how many writes there were since its last flush that succeeded
pub record SinkState : Type 0 where
  pub contents : Held
  pub failures : ℕ
  pub unflushed : ℕ

-- the bytes that a source has left, where it tells them, what its calls gave, where it keeps that, and how many of them failed
pub record SourceState : Type 0 where
  pub remaining : Option (List ℕ)
  pub log : Option Log
  pub failures : ℕ

-- what a sink holds grew by these bytes, and so did what its writes took
pub record Gains (old new : Held) (bytes : List ℕ) : Type 0 where
  pub told : Appends old.told new.told bytes
  pub taken : Appends old.taken new.taken bytes

-- neither did
pub record Stays (old new : Held) : Type 0 where
  pub told : Keeps old.told new.told
  pub taken : Keeps old.taken new.taken

-- they grew by a prefix of these bytes, perhaps by none of them or by all
pub record GainsFront (old new : Held) (bytes : List ℕ) : Type 0 where
  pub count : ℕ
  pub few : count ≤ length bytes
  pub gains : Gains old new (take count bytes)

-- a sink took all of these bytes, and no call failed
pub record Prints (text : List ℕ) (old new : SinkState) : Type 0 where
  pub bytes : Gains old.contents new.contents text
  pub quiet : new.failures ≡ old.failures

-- a sink took a prefix of these bytes, and then one call failed
pub record PrintsFront (text : List ℕ) (old new : SinkState) : Type 0 where
  pub bytes : GainsFront old.contents new.contents text
  pub failed : new.failures ≡ old.failures + 1

-- one write took so many bytes of a piece: where it took none of a piece that isn't empty it is a failed call
pub record Writes (count : ℕ) (piece : List ℕ) (old new : SinkState) : Type 0 where
  pub bytes : Gains old.contents new.contents (take count piece)
  pub failed : new.failures ≡ old.failures + (if (count == 0) && nat_lt 0 (length piece) then 1 else 0)
  pub unflushed : new.unflushed ≡ old.unflushed + 1

-- one write failed, and took nothing
pub record FailsToWrite (old new : SinkState) : Type 0 where
  pub bytes : Stays old.contents new.contents
  pub failed : new.failures ≡ old.failures + 1
  pub unflushed : new.unflushed ≡ old.unflushed + 1

-- what a sink took is passed on
pub record Flushes (old new : SinkState) : Type 0 where
  pub bytes : Stays old.contents new.contents
  pub quiet : new.failures ≡ old.failures
  pub flushed : new.unflushed ≡ 0

-- it isn't: the call failed
pub record FailsToFlush (old new : SinkState) : Type 0 where
  pub bytes : Stays old.contents new.contents
  pub failed : new.failures ≡ old.failures + 1
  pub unflushed : new.unflushed ≡ old.unflushed

-- since then no call of a source failed
pub record StaysQuiet (old new : SourceState) : Type 0 where
  pub quiet : new.failures ≡ old.failures
  pub log : Grows old.log new.log

-- since then one did
pub record FailsOnce (old new : SourceState) : Type 0 where
  pub failed : new.failures ≡ old.failures + 1
  pub log : Grows old.log new.log

-- these bytes came from a source, and no call failed
pub record Reads (bytes : List ℕ) (old new : SourceState) : Type 0 where
  pub gone : Consumes old.remaining new.remaining bytes
  pub log : Logs old.log new.log bytes
  pub quiet : new.failures ≡ old.failures

-- a source told its end
abbrev pub IsDry : SourceState → Type 0
IsDry now = IsDone now.remaining now.log

-- one read failed, and nothing came
pub record FailsToRead (old new : SourceState) : Type 0 where
  pub bytes : Keeps old.remaining new.remaining
  pub log : new.log ≡ old.log
  pub failed : new.failures ≡ old.failures + 1

-- a stream, the bytes that its writes took, what its reads gave, how many of its calls have failed, and how many writes there were since
-- its last flush that succeeded
pub record Watch (S : Type 0) : Type 0 where
  pub stream : S
  pub taken : List ℕ
  pub log : Log
  pub failures : ℕ
  pub unflushed : ℕ
