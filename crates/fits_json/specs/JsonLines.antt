-- A text whose lines are JSON (own).
use Rattle.std.specs.Borrow.{Bor}
use Rattle.std.specs.Prelude.{◌≡◌, ◌⊎◌, ℕ, ◌+◌, Bool, true, List, [], ◌∷◌, ◌++◌, Some, None, if◌then◌else◌}
use Rattle.std.specs.List.{All, flat_map}
use Rattle.fits_stream.specs.Stream.{Gains, Held, SinkState}
use Rattle.fits_json.specs.Objects.{IsUnended, json_of_line, ReadsAsLine}
use Rattle.fits_json.specs.declared.column.Column.{Column}
use Rattle.fits_json.specs.declared.json_lines.LineFault.{LineFault}
use Rattle.fits_json.specs.declared.json_lines.LineFault.TheVariants.{Memory, Failed}

-- a line with its line feed
abbrev pub ended_line : List ℕ → List ℕ
ended_line line = line ++ 10 ∷ []

-- the JSON of a line of a file with its line feed
abbrev pub json_line : List ℕ → List (Bor (List Column)) → List ℕ → List ℕ
json_line name forms line = ended_line (json_of_line name forms line)

-- a text is lines, each with its line feed, and one that hasn't ended; these bytes are the JSON of each ended one with a line feed, which
-- reads as what the line says and is one line
pub record AreJsonLines (name : List ℕ) (forms : List (Bor (List Column))) (text held bytes : List ℕ) : Type 0 where
  pub lines : List (List ℕ)
  pub text_is : text ≡ flat_map ended_line lines ++ held
  pub unended : IsUnended held
  pub whole : All IsUnended lines
  pub bytes_are : bytes ≡ flat_map (json_line name forms) lines
  pub read : All (ReadsAsLine name forms) lines

-- a line feed, where a line ends
abbrev pub feed_if : Bool → List ℕ
feed_if ends = if ends then 10 ∷ [] else []

-- the JSON of a line, where it ends
abbrev pub passed_if : List ℕ → List (Bor (List Column)) → Bool → List ℕ → List ℕ
passed_if name forms ends line = if ends then json_line name forms line else []

-- what is held of a line, which is nothing where it ends
abbrev pub held_if : Bool → List ℕ → List ℕ
held_if ends line = if ends then [] else line

-- bytes of one line were taken after those that were held of it; where it ends its JSON, which reads as what the line says, was passed on
-- to the sink below
pub record TakesLine (name : List ℕ) (forms : List (Bor (List Column))) (bytes held kept passed gone : List ℕ) (old new : Held) : Type 0 where
  pub part : List ℕ
  pub ends : Bool
  pub bytes_are : bytes ≡ part ++ feed_if ends
  pub unended : IsUnended part
  pub kept_is : kept ≡ held_if ends (held ++ part)
  pub gone_is : gone ≡ passed ++ passed_if name forms ends (held ++ part)
  pub gains : Gains old new (passed_if name forms ends (held ++ part))
  pub reads : ends ≡ true → ReadsAsLine name forms (held ++ part)

-- these bytes were passed on to a sink
pub record PassesOn (passed gone : List ℕ) (old new : Held) : Type 0 where
  pub more : List ℕ
  pub gone_is : gone ≡ passed ++ more
  pub gains : Gains old new more

-- why a line wasn't passed on: memory was refused, or a call of the sink below failed
abbrev pub LineFails : SinkState → SinkState → LineFault → Type 0
LineFails old new Memory = new.failures ≡ old.failures
LineFails old new (Failed error) = new.failures ≡ old.failures + 1

-- a sink below, the file's name, the forms of its lines, the line that hasn't ended, what was written, what was passed on, how many calls
-- failed, how many writes there were since the last flush that succeeded, and whether one lacked memory
pub record JsonState (O : Type 0) : Type 0 where
  pub sink : O
  pub name : List ℕ
  pub forms : List (Bor (List Column))
  pub held : List ℕ
  pub told : List ℕ
  pub passed : List ℕ
  pub failed : ℕ
  pub unflushed : ℕ
  pub lacks : Bool

-- it as a sink: what it took is what was written
abbrev pub json_sink : {O : Type 0} → JsonState O → SinkState
json_sink it = record { contents = record { told = None; taken = Some it.told }; failures = it.failed; unflushed = it.unflushed }

-- as long as no call failed, what was passed on is the JSON of what was written; and where no write waits to be passed on none waits in
-- the sink below, once one was made
pub record IsJson (name : List ℕ) (forms : List (Bor (List Column))) (held told passed : List ℕ) (failed unflushed : ℕ) (below : SinkState) : Type 0 where
  pub json : failed ≡ 0 → AreJsonLines name forms told held passed
  pub passed_on : unflushed ≡ 0 → (told ≡ []) ⊎ (below.unflushed ≡ 0)
