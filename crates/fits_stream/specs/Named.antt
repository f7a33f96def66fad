-- A text with a name before each of its lines (own).
use Rattle.std.specs.Prelude.{◌≡◌, ◌⊎◌, ℕ, zero, suc, ◌+◌, ◌-◌, ◌==◌, ◌≤◌, nat_le, Bool, true, false, ◌&&◌, ◌||◌, List, [], ◌∷◌, ◌++◌, length, take, drop, Option, Some, None, IfSome, if◌then◌else◌}
use Rattle.std.specs.Str.{bytes_eq}
use Rattle.fits_stream.specs.Stream.{Held, SinkState}

-- whether a line begins after these bytes, where one began before them or not
abbrev pub line_begins : Bool → List ℕ → Bool
line_begins begun [] = begun
line_begins begun (byte ∷ bytes) = line_begins (byte == 10) bytes

-- a text, the name before each line that begins in it; the first one did or not
abbrev pub named_from : List ℕ → Bool → List ℕ → List ℕ
named_from name begun [] = []
named_from name begun (byte ∷ bytes) = (if begun then name else []) ++ (byte ∷ named_from name (byte == 10) bytes)

-- a text, the name before each of its lines
abbrev pub named : List ℕ → List ℕ → List ℕ
named name text = named_from name true text

-- no byte follows a line feed
abbrev pub is_one_line : List ℕ → Bool
is_one_line [] = true
is_one_line (byte ∷ []) = true
is_one_line (byte ∷ (next ∷ bytes)) = if byte == 10 then false else is_one_line (next ∷ bytes)

-- a text without so many bytes, and without as many as a name has after each line feed
abbrev pub unnamed_from : ℕ → ℕ → List ℕ → List ℕ
unnamed_from size left [] = []
unnamed_from size zero (byte ∷ bytes) = byte ∷ unnamed_from size (if byte == 10 then size else 0) bytes
unnamed_from size (suc left) (byte ∷ bytes) = unnamed_from size left bytes

-- the name of the line that begins after a text, but for so many bytes; where none begins, nothing
abbrev pub name_begun : List ℕ → ℕ → List ℕ → List ℕ
name_begun name left text = if line_begins true text then take (length name - left) name else []

-- the last bytes, so many, are a text with the name before each of its lines, and of the line that begins
-- after it the name but for so many bytes
pub record EndsNamed (name : List ℕ) (left sent : ℕ) (bytes : List ℕ) (text : List ℕ) : Type 0 where
  pub before : List ℕ
  pub joined : bytes ≡ before ++ (named name text ++ name_begun name left text)
  pub size : length bytes ≡ length before + sent
  pub inside : line_begins true text ≡ false → left ≡ 0

-- the last bytes, so many, without the names of their lines
abbrev pub last_told : List ℕ → ℕ → List ℕ → List ℕ
last_told name sent bytes = unnamed_from (length name) (length name) (drop (length bytes - sent) bytes)

-- the last bytes, so many, are this text with its names: as a test
abbrev pub ends_named : List ℕ → ℕ → ℕ → List ℕ → List ℕ → Bool
ends_named name left sent bytes text =
    nat_le sent (length bytes)
    && bytes_eq (drop (length bytes - sent) bytes) (named name text ++ name_begun name left text)
    && (line_begins true text || nat_le left 0)

-- the text that the last bytes are, so many, with the name before each of its lines, if they are one
abbrev pub told_in : List ℕ → ℕ → ℕ → List ℕ → Option (List ℕ)
told_in name left sent bytes =
    let text : List ℕ = last_told name sent bytes in
    if ends_named name left sent bytes text then Some text else None

-- the same of what a sink tells
abbrev pub told_of : List ℕ → ℕ → ℕ → Option (List ℕ) → Option (List ℕ)
told_of name left sent None = None
told_of name left sent (Some bytes) = told_in name left sent bytes

-- what a sink with names before its lines holds and took, where the sink below holds and took so much
abbrev pub unnamed : List ℕ → ℕ → ℕ → Held → Held
unnamed name left sent below = record { told = told_of name left sent below.told; taken = told_of name left sent below.taken }

-- where a text is told, what a sink holds ends with it, the name before each of its lines
abbrev pub IsNamed : List ℕ → ℕ → ℕ → Option (List ℕ) → Option (List ℕ) → Type 0
IsNamed name left sent None told = Unit {0}
IsNamed name left sent (Some bytes) told = IfSome told (EndsNamed name left sent bytes)

-- a sink below, the name, how many bytes of it the next line still wants, how many bytes went to the sink, and how many
-- writes there were since the last flush that succeeded
pub record Naming (O : Type 0) : Type 0 where
  pub sink : O
  pub name : List ℕ
  pub left : ℕ
  pub sent : ℕ
  pub unflushed : ℕ

-- as much of the name is left at most as it has; and where no write waits to be passed on none waits in the sink below, once one was made
pub record IsNaming (name : List ℕ) (left sent unflushed : ℕ) (below : SinkState) : Type 0 where
  pub within : left ≤ length name
  pub passed_on : unflushed ≡ 0 → (sent ≡ 0) ⊎ (below.unflushed ≡ 0)
