-- Bytes of a source, taken up to a limit (own).
use Rattle.std.specs.Prelude.{◌≡◌, ◌⊎◌, ℕ, ◌+◌, ◌<◌, ◌≤◌, List, [], ◌++◌, length, take, IfSome, MatchOption}
use Rattle.fits_stream.specs.Stream.{SourceState, FailsOnce, IsDry, Reads, StaysQuiet}
use Rattle.fits_stream.specs.declared.reading.ReadFault.{ReadFault}
use Rattle.fits_stream.specs.declared.reading.ReadFault.TheVariants.{Memory, Failed}

-- an intake: the bytes that it has ahead, and how many more may be taken after them
pub record IntakeState : Type 0 where
  pub ahead : List ℕ
  pub left : ℕ

-- what may be taken: the bytes ahead, and then so many of a source
pub record Supply : Type 0 where
  pub ahead : List ℕ
  pub source : SourceState
  pub left : ℕ

-- a source with an intake
abbrev pub supply : SourceState → IntakeState → Supply
supply source intake = record { ahead = intake.ahead; source = source; left = intake.left }

-- these bytes came from the source, and so many fewer may come from now on
pub record Draws (old new : Supply) (bytes : List ℕ) : Type 0 where
  pub read : Reads bytes old.source new.source
  pub count : old.left ≡ new.left + length bytes

-- these bytes were taken: with those ahead now they are those that were ahead, and those that came from the source
pub record Takes (old new : Supply) (bytes : List ℕ) : Type 0 where
  pub more : List ℕ
  pub joined : old.ahead ++ more ≡ bytes ++ new.ahead
  pub drawn : Draws old new more

-- so many bytes were taken, whatever they were
pub record Passes (old new : Supply) (count : ℕ) : Type 0 where
  pub bytes : List ℕ
  pub taken : Takes old new bytes
  pub size : length bytes ≡ count

-- these bytes begin with some that had come before, and the others came from the source
pub record ReadsAfter (before : List ℕ) (old new : SourceState) (bytes : List ℕ) : Type 0 where
  pub more : List ℕ
  pub joined : bytes ≡ before ++ more
  pub read : Reads more old new

-- so many bytes came, whatever they were
pub record Skips (old new : SourceState) (count : ℕ) : Type 0 where
  pub bytes : List ℕ
  pub read : Reads bytes old new
  pub size : length bytes ≡ count

-- why bytes weren't taken: memory was refused, or a call failed
abbrev pub TakingStops : SourceState → SourceState → ReadFault → Type 0
TakingStops old new Memory = StaysQuiet old new
TakingStops old new Failed = FailsOnce old new

-- nothing comes after the bytes ahead: no more may be taken, or nothing is left
abbrev pub IsSpent : Supply → Type 0
IsSpent now = (now.left ≡ 0) ⊎ IsDry now.source

-- nothing comes any more
pub record IsOver (now : Supply) : Type 0 where
  pub none : now.ahead ≡ []
  pub spent : IsSpent now

-- these are the bytes that may still come after those ahead, as far as the source tells them
abbrev pub IsInSight : Supply → List ℕ → Type 0
IsInSight now bytes = MatchOption now.source.remaining (length bytes ≤ now.left) (λ xs. bytes ≡ take now.left xs)

-- so are the bytes that were ahead and in sight, of which some were taken
pub record Finds (old new : Supply) (fact : List ℕ → Type 0) : Type 0 where
  pub sight : List ℕ
  pub in_sight : IsInSight old sight
  pub is : fact (old.ahead ++ sight)
  pub bytes : List ℕ
  pub taken : Takes old new bytes

-- these are all the bytes that a source had left, as far as it tells them
abbrev pub Tells : SourceState → List ℕ → Type 0
Tells old bytes = IfSome old.remaining (λ left. left ≡ bytes)

-- so are all the bytes that a source had left, as far as it tells them
abbrev pub Gives : SourceState → (List ℕ → Type 0) → Type 0
Gives old fact = (bytes : List ℕ) × Tells old bytes × fact bytes

-- where more is left than may be taken, all are more than this limit
abbrev pub IsLimited : ℕ → Supply → Type 0
IsLimited limit now = IfSome now.source.remaining (λ left. now.left < length left → limit < length now.ahead + length left)

-- these are all the bytes that were ahead and that the source had left, as far as it tells them
abbrev pub TellsAll : Supply → List ℕ → Type 0
TellsAll old bytes = IfSome old.source.remaining (λ left. old.ahead ++ left ≡ bytes)

-- so are they all
abbrev pub GivesAll : Supply → (List ℕ → Type 0) → Type 0
GivesAll old fact = (bytes : List ℕ) × TellsAll old bytes × fact bytes
