-- What came of a source, byte by byte, each with its place (own).
use Rattle.std.specs.Prelude.{◌≡◌, ℕ, ◌+◌, ◌-◌, ◌≤◌, List, [], ◌∷◌, ◌++◌, length, Option, Some, None, ◌==◌, ◌&&◌, nat_lt, Bool, if◌then◌else◌}
use Rattle.std.specs.Coded.{Coded, code_by, coded×, coded_list, coded_ℕ}
use Rattle.std.specs.Io.KnownBytes.{IsAtEnd}
use Rattle.std.specs.List.{slice_get}
use mathlib.Core.Path.{refl}

-- what came, the place of the next byte, the places at which a read gave none, and how many bytes were gone past unread
pub record Log : Type 0 where
  pub at : ℕ
  pub came : List (ℕ × ℕ)
  pub ends : List ℕ
  pub unread : ℕ

abbrev pub coded_log : Coded Log
coded_log =
    code_by (ℕ × (List (ℕ × ℕ) × (List ℕ × ℕ))) (coded× coded_ℕ (coded× (coded_list (coded× coded_ℕ coded_ℕ)) (coded× (coded_list coded_ℕ) coded_ℕ)))
    (λ l. (l.at, (l.came, (l.ends, l.unread)))) (λ p. record { at = p.0; came = p.1.0; ends = p.1.1.0; unread = p.1.1.1 }) (λ _. refl)

-- nothing came yet
abbrev pub unbegun : Log
unbegun = record { at = 0; came = []; ends = []; unread = 0 }

-- bytes, each with its place, from a place on
abbrev pub placed : ℕ → List ℕ → List (ℕ × ℕ)
placed at [] = []
placed at (byte ∷ bytes) = (at, byte) ∷ placed (at + 1) bytes

-- these bytes came too
abbrev pub grown : Log → List ℕ → Log
grown log bytes = record { at = log.at + length bytes; came = log.came ++ placed log.at bytes; ends = log.ends; unread = log.unread }

-- so many bytes were gone past unread
abbrev pub passed : Log → ℕ → Log
passed log count = record { at = log.at + count; came = log.came; ends = log.ends; unread = log.unread + count }

-- the next byte lies elsewhere
abbrev pub turned : Log → ℕ → Log
turned log place = record { at = place; came = log.came; ends = log.ends; unread = log.unread }

-- a read gave none
abbrev pub ended : Log → Log
ended log = record { at = log.at; came = log.came; ends = log.ends ++ log.at ∷ []; unread = log.unread }

-- as if none were gone past unread
abbrev pub unskipped : Log → Log
unskipped log = record { at = log.at; came = log.came; ends = log.ends; unread = 0 }

-- a byte at a place is one of those that lie from a place on
abbrev pub IsThere : ℕ → List ℕ → ℕ × ℕ → Type 0
IsThere at bytes one = (at ≤ one.0) × (slice_get bytes (one.0 - at) ≡ Some one.1)

-- so is each of these
abbrev pub AreThere : ℕ → List ℕ → List (ℕ × ℕ) → Type 0
AreThere at bytes [] = Unit {0}
AreThere at bytes (one ∷ more) = IsThere at bytes one × AreThere at bytes more

-- these bytes are gone, and those of them came that weren't gone past unread
pub record Adds (old new : Log) (bytes : List ℕ) : Type 0 where
  pub at : new.at ≡ old.at + length bytes
  pub more : List (ℕ × ℕ)
  pub joined : new.came ≡ old.came ++ more
  pub there : AreThere old.at bytes more
  pub ends : (n place : ℕ) → slice_get old.ends n ≡ Some place → slice_get new.ends n ≡ Some place
  pub later : old.unread ≤ new.unread
  pub whole : new.unread ≡ old.unread → more ≡ placed old.at bytes

-- the same, where a log is kept
abbrev pub Logs : Option Log → Option Log → List ℕ → Type 0
Logs None new bytes = Unit {0}
Logs (Some old) None bytes = ⊥
Logs (Some old) (Some new) bytes = Adds old new bytes

-- a log went on, whatever came
pub record Grows (old new : Option Log) : Type 0 where
  pub bytes : List ℕ
  pub logs : Logs old new bytes

-- a read gave none, where the next byte would lie
abbrev pub HasEnded : Log → Type 0
HasEnded log = (n : ℕ) × (slice_get log.ends n ≡ Some log.at)

-- the same, where a log is kept
abbrev pub IsEnded : Option Log → Type 0
IsEnded None = Unit {0}
IsEnded (Some log) = HasEnded log

-- an end is new, where the next byte would lie; or none is
abbrev pub NotesEnd : Bool → Option Log → Option Log → Type 0
NotesEnd is None new = Unit {0}
NotesEnd is (Some old) None = ⊥
NotesEnd is (Some old) (Some new) = new.ends ≡ (if is then old.ends ++ new.at ∷ [] else old.ends)

-- so a read does that gave so many bytes, with so much room: one that gave none, and had room for some, met an end
abbrev pub met_end : ℕ → ℕ → Bool
met_end count room = (count == 0) && nat_lt 0 room

-- a read gave none, and no known byte is left
pub record IsDone (known : Option (List ℕ)) (log : Option Log) : Type 0 where
  pub left : IsAtEnd known
  pub told : IsEnded log
